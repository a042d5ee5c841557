-- The forms of quoted literals (with escapes, raw, and single), and the parts of a literal of each form.
use Rattle.std.specs.Prelude.{◌≡◌, ℕ, ◌+◌, Bool, true, false, List, length}
use Rattle.std.specs.List.{list_all}
use Rattle.rl_syntax.specs.declared.kind.Kind.{Kind}
use Rattle.rl_syntax.specs.Quoted.{Cooked, Raw, Single, is_string, is_single, is_plain, opener, raw_opener, texts, unit_text}
use Rattle.rl_lenient.specs.declared.quoted_forms.QuotedForm.{QuotedForm}
use Rattle.rl_lenient.specs.declared.quoted_forms.QuotedForm.TheVariants.{Cooked as CookedForm, Raw as RawForm, Single as SingleForm}

-- Whether literals of the kind can have the form. A string can have the form with escapes or the raw form. A character or
-- byte literal has the single form.
abbrev pub has_form : QuotedForm → Kind → Bool
has_form CookedForm kind = is_string kind
has_form RawForm kind = is_string kind
has_form SingleForm kind = is_single kind

-- The text that begins a literal of the form and the kind, before its characters and escapes. In a raw string it is the
-- text before the hashes.
abbrev pub form_opener : QuotedForm → Kind → List ℕ
form_opener CookedForm kind = opener kind
form_opener RawForm kind = raw_opener kind
form_opener SingleForm kind = opener kind

-- The text is a literal of the form and the kind, with the given value, body and suffix.
abbrev pub PartsAre : QuotedForm → Kind → List ℕ → List ℕ → List ℕ → List ℕ → Type 0
PartsAre CookedForm kind text value body suffix =
    (c : Cooked kind text value suffix) × (body ≡ texts c.units)
PartsAre RawForm kind text value body suffix = (r : Raw kind text value suffix) × (body ≡ r.inside)
PartsAre SingleForm kind text value body suffix =
    (s : Single kind text value suffix) × (body ≡ unit_text s.unit)

-- The number of bytes before the body of a quoted literal.
abbrev pub front_len : (form : QuotedForm) (kind : Kind) (text value body suffix : List ℕ)
    → PartsAre form kind text value body suffix → ℕ
front_len CookedForm kind text value body suffix parts = length (opener kind)
front_len RawForm kind text value body suffix parts =
    length (raw_opener kind) + parts.0.hashes + 1
front_len SingleForm kind text value body suffix parts = length (opener kind)

-- Whether the body of a literal is its own value. The body of a raw string is always its own value. The body of another
-- string is its own value if it contains neither an escape nor a line end CR LF. For character and byte literals the result
-- is `false`.
abbrev pub is_plain_body : QuotedForm → Kind → List ℕ → Bool
is_plain_body RawForm kind body = true
is_plain_body CookedForm kind body = list_all (is_plain kind) body
is_plain_body SingleForm kind body = false

abbrev pub HasNoParts : QuotedForm → Kind → List ℕ → Type 0
HasNoParts form kind text = (v body suffix : List ℕ) → PartsAre form kind text v body suffix → ⊥
