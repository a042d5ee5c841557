-- The byte offsets of the parts of a quoted literal.
use Rattle.rl_syntax.proofs.Common.{◌≡◌, ℕ, Bool, List, ◌∷◌, ◌++◌, length, take, drop, sym, ap, ap₂, subst, ◌∙◌, arith, IsUtf8-take, IsUtf8}
use Rattle.rl_lenient.proofs.Names.{drop-append_seam, Kind, IsTail}
use Rattle.std.proofs.Common.{◌-◌}
use Rattle.std.specs.Str.{chars}
use Rattle.rl_syntax.proofs.TailLemmas.{tail_step, cut_boundary, cut_chars, cut_drop}
use Rattle.rl_syntax.proofs.Rests.{tail_length}
use Rattle.rl_syntax.proofs.ScanLemmas.{ascii_first}
use Rattle.rl_lenient.specs.declared.found.Body.{Body}
use Rattle.rl_lenient.specs.declared.quoted_forms.QuotedForm.{QuotedForm}
use Rattle.rl_lenient.specs.Forms.{form_opener}
use Rattle.rl_lenient.specs.Founds.{IsBodyWithin, body_in, suffix_in}
use Rattle.rl_lenient.specs.Mirrors.OpenerAt.{found_opener, opener_at}
use Rattle.rl_lenient.proofs.CutLemmas.{tail_chars}
use Rattle.rl_lenient.proofs.FormLemmas.{front_sound}
use Rattle.rl_lenient.proofs.ShapeLemmas.{closed_cut}

-- The byte offsets of the parts of a literal. They are computed from three ends of its text: the text after the opening
-- delimiter, the text from the closing delimiter on, and the suffix.
pub record Placed (t opened closer suffix : List ℕ) (body : Body) : Type 0 where
  pub stands : IsBodyWithin t body
  pub body_is : chars opened ≡ chars (body_in t body) ++ chars closer
  pub suffix_is : suffix_in t body ≡ suffix

pub placed : (t opened closer suffix : List ℕ) (plain : Bool) → IsTail t opened → IsTail opened closer
    → IsTail closer suffix → Placed t opened closer suffix (record
    { lo = length t - length opened; hi = length t - length closer; suffix_at = length t - length suffix; plain = plain })
placed t opened closer suffix plain begins closes ends =
    let lo = length t - length opened in
    let hi = length t - length closer in
    let n = length opened - length closer in
    let long : hi - lo ≡ n = omega (arith, tail_length t opened begins, tail_length opened closer closes) in
    let body_is : take (hi - lo) (drop lo t) ≡ take n opened = ap₂ take long (cut_drop t opened begins) in
    let is_text : IsUtf8 (take (hi - lo) (drop lo t)) = subst IsUtf8 (sym body_is)
    (IsUtf8-take opened n begins.is_text (cut_boundary opened closer closes)) in
    let closed = tail_step t opened closer begins closes in
    record {
      stands = record {
        ordered = omega (arith, tail_length opened closer closes);
        begins = cut_boundary t opened begins;
        ends = cut_boundary t closer closed;
        following = cut_boundary t suffix (tail_step t closer suffix closed ends);
      };
      body_is = cut_chars opened (take (hi - lo) (drop lo t)) closer is_text closes body_is;
      suffix_is = cut_drop t suffix (tail_step t closer suffix closed ends);
    }

-- The text after the opening delimiter of a quoted literal is an end of the literal's text.
pub opened : (form : QuotedForm) (kind : Kind) (t inside : List ℕ) → IsUtf8 t → IsUtf8 inside → opener_at (chars t)
    ≡ found_opener form kind (chars inside) → IsTail t inside
opened form kind t inside u w front = tail_chars t inside (form_opener form kind) u w
    (front_sound (chars t) (form, kind, chars inside) front).text_is

-- The text after the body of a quoted literal begins with the closing quote.
pub closer_is : (t b x closer : List ℕ) → IsUtf8 t → IsUtf8 b → IsUtf8 x → chars t ≡ chars b ++ (34 ∷ chars x) → closer
    ≡ drop (length b) t → chars closer ≡ 34 ∷ chars x
closer_is t b x closer ut ub ux e is =
    let (cut, text) = closed_cut t b x ut ub ux e in
    ap chars (is ∙ ap (drop (length b)) cut ∙ drop-append_seam b (34 ∷ x))
    ∙ ascii_first (34 ∷ x) text (omega arith) (omega arith)
