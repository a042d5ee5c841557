-- A text is lexed into at most one list of token trees, has at most one first error, and never has both.
use Rattle.rl_syntax.proofs.Common.{◌≡◌, ℕ, List, [], refl, sym, ◌∙◌, ap, subst, arith}
use Rattle.rl_lexer.specs.Mirrors.LexemeAt.{lexeme_at}
use Rattle.rl_syntax.specs.Texts.{byte_len}
use Rattle.rl_lexer.specs.Cuts.{OpenGroup, ErrorAt, error_place, OneError}
use Rattle.rl_tokens.specs.Lexing.{OneList, NeverBoth}
use Rattle.rl_tokens.proofs.FlatTrees.{flat_trees_same}
use Rattle.rl_tokens.proofs.CutLaws.{same_cut}
use Rattle.rl_tokens.proofs.ErrorLaws.{nothing_stuck, error_stuck, kind_at, error_kind_at}
use Rattle.rl_lexer.proofs.ErrorKinds.{no_error}

pub one_list : OneList
one_list t file xs ys a b =
    let same = same_cut 0 t [] a.cuts b.cuts [] [] [] [] a.are_cuts a.none_open (nothing_stuck [] [] refl) b.are_cuts
    b.none_open (nothing_stuck [] [] refl) in
    flat_trees_same xs ys (sym a.flat_is ∙ same.flat file ∙ b.flat_is)

pub one_error : OneError
one_error t k l m n a b =
    let same = same_cut 0 t [] a.cuts b.cuts a.rest b.rest a.groups b.groups a.are_cuts a.are_open
    (error_stuck k a.groups a.rest a.error) b.are_cuts b.are_open (error_stuck l b.groups b.rest b.error) in
    let kinds : k ≡ l = error_kind_at k a.groups a.rest a.error ∙ ap (λ r. kind_at (lexeme_at r) r) same.rest
    ∙ sym (error_kind_at l b.groups b.rest b.error) in
    let places : a.rest_at ≡ b.rest_at = omega (arith, a.rest_place, b.rest_place, ap byte_len same.rest) in (
      kinds,
      a.at_is
          ∙ ap (λ x. error_place x a.groups a.rest_at) kinds
          ∙ ap (λ g. error_place l g a.rest_at) same.groups
          ∙ ap (λ p. error_place l b.groups p) places
          ∙ sym b.at_is,
    )

pub never_both : NeverBoth
never_both t file trees k at a b =
    let same = same_cut 0 t [] a.cuts b.cuts [] b.rest [] b.groups a.are_cuts a.none_open (nothing_stuck [] [] refl)
    b.are_cuts b.are_open (error_stuck k b.groups b.rest b.error) in
    no_error k (subst (λ (g : List OpenGroup). ErrorAt k g []) (sym same.groups)
    (subst (λ (r : List ℕ). ErrorAt k b.groups r) (sym same.rest) b.error))
