-- Lemmas about punctuation characters at the start of token trees.
use Rattle.rl_syntax.proofs.Common.{◌≡◌, ℕ, false, List, [], ◌∷◌, Option, Some, None, refl, sym, subst, ◌∙◌, IsFalse}
use Rattle.std.specs.Prelude.{IfNone}
use Rattle.rl_syntax.specs.declared.span.Span.{Span}
use Rattle.rl_tokens.specs.Puncts.{Mark}
use Rattle.rl_tokens.specs.Trees.{Tree, GroupTree, IdentTree, PunctTree, LiteralTree}
use Rattle.rl_tokens.specs.Buffers.{begins_punct, begins_mark, IsAfterMarks, IsRest}
use Rattle.rl_tokens.proofs.TreeRests.{rest_none, rest_one, rest_step}

-- If a list of token trees doesn't begin with any punctuation character, it doesn't begin with the character `ch`.
pub no_mark : (ch : ℕ) (trees : List Tree) → IsFalse (begins_punct trees) → begins_mark ch trees ≡ false
no_mark ch [] h = refl
no_mark ch (GroupTree d inside at ∷ ts) h = refl
no_mark ch (IdentTree i ∷ ts) h = refl
no_mark ch (PunctTree m ∷ ts) h = absurd (cc)
no_mark ch (LiteralTree l ∷ ts) h = refl

-- ---- punctuation characters with nothing between them

-- The first of the characters is consumed. The others follow it.
pub after_one : (cs chs : List ℕ) (ch : ℕ) (before : Span) (trees next : List Tree) (m : Mark) (at span : Span)
    (rest : List Tree) → cs ≡ ch ∷ chs → trees ≡ PunctTree m ∷ next → at ≡ m.span
    → IsAfterMarks cs before trees span rest → IsAfterMarks chs (record before { hi = at.hi }) next span rest
after_one cs chs ch before trees next m at span rest c t e h =
    let both : IsAfterMarks (ch ∷ chs) before (PunctTree m ∷ next) span rest =
    subst (λ z. IsAfterMarks z before (PunctTree m ∷ next) span rest) c
    (subst (λ z. IsAfterMarks cs before z span rest) t h) in
    subst (λ (z : Span). IsAfterMarks chs (record before { hi = z.hi }) next span rest) (sym e) both.3

pub none_after : (o : Option Span) (P Q : Span → List Tree → Type 0) → ((s : Span) (r : List Tree) → Q s r → P s r)
    → IfNone o ((s : Span) (r : List Tree) → P s r → ⊥) → IfNone o ((s : Span) (r : List Tree) → Q s r → ⊥)
none_after None P Q f h = λ s r q. h s r (f s r q)
none_after (Some x) P Q f h = tt

pub rest_marks : (chs : List ℕ) (before : Span) (trees : List Tree) (span : Span) (rest : List Tree)
    → IsAfterMarks chs before trees span rest → IsRest trees rest
rest_marks [] before trees span rest h = rest_none trees rest h.1
rest_marks (ch ∷ chs) before (PunctTree m ∷ ts) span rest h =
    rest_step (PunctTree m ∷ ts) ts rest (rest_one (PunctTree m ∷ ts) ts (PunctTree m) refl)
    (rest_marks chs (record before { hi = m.span.hi }) ts span rest h.3)
rest_marks (ch ∷ chs) before [] span rest h = absurd h
rest_marks (ch ∷ chs) before (GroupTree d inside at ∷ ts) span rest h = absurd h
rest_marks (ch ∷ chs) before (IdentTree i ∷ ts) span rest h = absurd h
rest_marks (ch ∷ chs) before (LiteralTree l ∷ ts) span rest h = absurd h

pub one_rest : (chs : List ℕ) (before : Span) (trees r s : List Tree) (a b : Span) → IsAfterMarks chs before trees a r
    → IsAfterMarks chs before trees b s → (a ≡ b) × (r ≡ s)
one_rest [] before trees r s a b h k = (h.0 ∙ sym k.0, h.1 ∙ sym k.1)
one_rest (ch ∷ chs) before (PunctTree m ∷ ts) r s a b h k =
    one_rest chs (record before { hi = m.span.hi }) ts r s a b h.3 k.3
one_rest (ch ∷ chs) before [] r s a b h k = absurd h
one_rest (ch ∷ chs) before (GroupTree d inside at ∷ ts) r s a b h k = absurd h
one_rest (ch ∷ chs) before (IdentTree i ∷ ts) r s a b h k = absurd h
one_rest (ch ∷ chs) before (LiteralTree l ∷ ts) r s a b h k = absurd h
