-- The opening delimiter of a quoted literal, as its parser stores it.
use Rattle.std.specs.Prelude.{◌≡◌, ◌≤◌, ℕ, List, ◌++◌, codes, replicate, IsTrue}
use Rattle.std.specs.Str.{chars}
use Prim.Native.Char.{code}
use Rattle.rl_syntax.specs.declared.kind.Kind.{Kind}
use Rattle.rl_syntax.specs.Quoted.{is_single, is_string, opener, raw_opener}
use Rattle.rl_lenient.specs.declared.quoted_forms.QuotedForm.{QuotedForm}
use Rattle.rl_lenient.specs.declared.quoted_forms.QuotedForm.TheVariants.{Cooked as CookedForm, Raw as RawForm, Single as SingleForm}
use Rattle.rl_flaws.specs.declared.walks.Opened.{Opened}

-- The opening delimiter of a literal with the given form: its prefix, a raw string's hashes, and the quote.
abbrev pub front_of : QuotedForm → Kind → List ℕ → List ℕ
front_of CookedForm kind hashes = opener kind
front_of SingleForm kind hashes = opener kind
front_of RawForm kind hashes = raw_opener kind ++ (hashes ++ codes "\"")

-- A literal of the kind may have the given form and hashes.
abbrev pub HasForm : QuotedForm → Kind → List ℕ → Type 0
HasForm CookedForm kind hashes = IsTrue (is_string kind)
HasForm SingleForm kind hashes = IsTrue (is_single kind)
HasForm RawForm kind hashes = IsTrue (is_string kind) × ((n : ℕ) × (n ≤ 255) × (hashes ≡ replicate n (code "#")))

abbrev pub opened_front : Opened → List ℕ
opened_front o = front_of o.form o.kind (chars o.hashes.now)

abbrev pub IsOpened : Opened → Type 0
IsOpened o = HasForm o.form o.kind (chars o.hashes.now)
