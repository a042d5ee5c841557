-- `syn`'s grammar is the rules of `syn`.
use Rattle.rl_syntax.proofs.Common.{◌≡◌, ◌⊎◌, ℕ, Bool, true, false, not, eqb, List, [], ◌∷◌, ◌++◌, refl, sym, ap, subst, ◌∙◌, inl, inr, list_all, ltb-true, and_parts, is_ascii, encode_ascii, encode_utf8_all}
use Rattle.std.specs.Prelude.{◌↔◌}
use Rattle.std.proofs.lemmas.Bool.{false≢true}
use Rattle.rl_syntax.specs.declared.kind.Kind.{Kind}
use Rattle.rl_syntax.specs.declared.kind.Kind.TheVariants.{Str, ByteStr, CStr, Byte, Char, Int, Float, Bool as BoolKind}
use Rattle.rl_syntax.specs.Reading.{Contents, ReadsQuoted, quoted_contents}
use Rattle.rl_syntax.specs.Quoted.{Cooked, Raw, Single, is_string, is_single, raw_opener, content_of}
use Rattle.rl_theorem.specs.Notation.{Rule, One, Many, Means, ◌∣◌}
use Rattle.rl_theorem.specs.RustRules.{IsLiteralBy}
use Rattle.rl_theorem.specs.SynRules.{str_inside, byte_str_inside, c_str_inside, raw_to_last, parse_lit_str_raw, parse_lit_byte_str_raw, parse_lit_c_str_raw, ReadsIsByTheRules}
use Rattle.rl_theorem.proofs.RuleParts.{run_to, all_pass}
use Rattle.rl_theorem.proofs.QuotedRules.{IsQuoted}
use Rattle.rl_theorem.proofs.SynQuotedRules.{Framed, frame, char_inside, byte_inside, raw_rule, raw_all, char_cooked, byte_cooked, str_cooked, byte_str_cooked, c_str_cooked}
use Rattle.rl_theorem.proofs.SynNumberRules.{int_rule, float_rule}
use Rattle.rl_theorem.proofs.TruthRule.{truth_rule}

abbrev any_text : Rule
any_text = Many (One (λ c. true))

abbrev By : Kind → Rule → List ℕ → Contents → List ℕ → Type 0
By kind a text contents x = IsLiteralBy a any_text kind text contents x

-- From a rule's text, with any suffix, to the literal, and back.
by_frame : (kind : Kind) (a : Rule) (text : List ℕ) (contents : Contents) (x value : List ℕ) → IsQuoted kind
    → contents ≡ quoted_contents kind value → Framed a text value x → By kind a text contents x
by_frame kind a text contents x value quoted contents_is f = record {
  body = f.body;
  value = value;
  text_is = f.text_is;
  is_body = f.is_body;
  is_suffix = (x, run_to (λ c. true) x [] (all_pass x));
  contents_is = contents_is ∙ sym (quoted value);
}

strings : (kind : Kind) (a b : Rule) → IsQuoted kind → is_single kind ≡ false
    → ((text value x : List ℕ) → Cooked kind text value x ↔ Framed a text value x)
    → ((text value x : List ℕ) → Raw kind text value x ↔ Framed b text value x)
    → (text : List ℕ) (contents : Contents) (x : List ℕ) → ReadsQuoted text kind contents x ↔ By kind (a ∣ b) text contents x
strings kind a b quoted not_single cooked raw text contents x = (λ s. to s s.form, λ l. from l l.is_body)
  where
    to : (s : ReadsQuoted text kind contents x) → Cooked kind text s.value x ⊎ Raw kind text s.value x ⊎ Single kind text s.value x
        → By kind (a ∣ b) text contents x
    to s (inl c) =
        let f = (cooked text s.value x).0 c in
        by_frame kind (a ∣ b) text contents x s.value quoted s.contents_is (record { body = f.body; text_is = f.text_is; is_body = inl f.is_body })
    to s (inr (inl r)) =
        let f = (raw text s.value x).0 r in
        by_frame kind (a ∣ b) text contents x s.value quoted s.contents_is (record { body = f.body; text_is = f.text_is; is_body = inr f.is_body })
    to s (inr (inr o)) = absurd (false≢true (sym not_single ∙ o.single))

    from : (l : By kind (a ∣ b) text contents x) → Means (a ∣ b) l.body x l.value → ReadsQuoted text kind contents x
    from l (inl m) = record {
      value = l.value;
      form = inl ((cooked text l.value x).1 (record { body = l.body; text_is = l.text_is; is_body = m }));
      contents_is = l.contents_is ∙ quoted l.value;
    }
    from l (inr m) = record {
      value = l.value;
      form = inr (inl ((raw text l.value x).1 (record { body = l.body; text_is = l.text_is; is_body = m })));
      contents_is = l.contents_is ∙ quoted l.value;
    }

singles : (kind : Kind) (a : Rule) → IsQuoted kind → is_string kind ≡ false
    → ((text value x : List ℕ) → Single kind text value x ↔ Framed a text value x)
    → (text : List ℕ) (contents : Contents) (x : List ℕ) → ReadsQuoted text kind contents x ↔ By kind a text contents x
singles kind a quoted no_string single text contents x = (λ s. to s s.form, from)
  where
    to : (s : ReadsQuoted text kind contents x) → Cooked kind text s.value x ⊎ Raw kind text s.value x ⊎ Single kind text s.value x
        → By kind a text contents x
    to s (inl c) = absurd (false≢true (sym no_string ∙ c.string))
    to s (inr (inl r)) = absurd (false≢true (sym no_string ∙ r.string))
    to s (inr (inr o)) = by_frame kind a text contents x s.value quoted s.contents_is ((single text s.value x).0 o)

    from : By kind a text contents x → ReadsQuoted text kind contents x
    from l = record {
      value = l.value;
      form = inr (inr ((single text l.value x).1 (record { body = l.body; text_is = l.text_is; is_body = l.is_body })));
      contents_is = l.contents_is ∙ quoted l.value;
    }

-- The rule `b` has the texts of the kind's raw strings. Its values are theirs.
raws : (kind : Kind) (test : ℕ → Bool) (b : Rule)
    → ((text value x : List ℕ) → Raw kind text value x
    ↔ ((inside : List ℕ) × (value ≡ content_of kind inside) × Framed (raw_to_last (raw_opener kind) test) text inside x))
    → ((u x v : List ℕ) → Means (raw_to_last (raw_opener kind) test) u x v → Means b u x (content_of kind v))
    → ((u x w : List ℕ) → Means b u x w → (v : List ℕ) × (w ≡ content_of kind v) × Means (raw_to_last (raw_opener kind) test) u x v)
    → (text value x : List ℕ) → Raw kind text value x ↔ Framed b text value x
raws kind test b rule means meant text value x = (to, from)
  where
    to : Raw kind text value x → Framed b text value x
    to r =
        let (inside, value_is, f) = (rule text value x).0 r in
        record { body = f.body; text_is = f.text_is; is_body = subst (λ v. Means b f.body x v) (sym value_is) (means f.body x inside f.is_body) }

    from : Framed b text value x → Raw kind text value x
    from f =
        let (v, value_is, m) = meant f.body x value f.is_body in
        (rule text value x).1 (v, value_is, record { body = f.body; text_is = f.text_is; is_body = m })

ascii_bytes : (cs : List ℕ) → list_all is_ascii cs ≡ true → encode_utf8_all cs ≡ cs
ascii_bytes [] all = refl
ascii_bytes (c ∷ cs) all =
    let (here, more) = and_parts (is_ascii c) (list_all is_ascii cs) all in
    ap (λ z. z ++ encode_utf8_all cs) (encode_ascii c (ltb-true c 128 here)) ∙ ap (λ z. c ∷ z) (ascii_bytes cs more)

pub reads_is_by_the_rules : ReadsIsByTheRules
reads_is_by_the_rules text Str v x =
    strings Str (frame Str (Many str_inside) 34) parse_lit_str_raw (λ v. refl) refl str_cooked
    (raws Str (λ c. true) parse_lit_str_raw (raw_rule Str (λ c. true) (λ cs. refl) refl) (λ u x v m. m) (λ u x w m. (w, refl, m))) text v x
reads_is_by_the_rules text ByteStr v x =
    strings ByteStr (frame ByteStr (Many byte_str_inside) 34) parse_lit_byte_str_raw (λ v. refl) refl byte_str_cooked
    (raws ByteStr is_ascii parse_lit_byte_str_raw (raw_rule ByteStr is_ascii (λ cs. refl) refl)
    (λ u x v m. subst (λ k. Means parse_lit_byte_str_raw u x k) (sym (ascii_bytes v (raw_all (raw_opener ByteStr) is_ascii u x v m))) m)
    (λ u x w m. (w, sym (ascii_bytes w (raw_all (raw_opener ByteStr) is_ascii u x w m)), m))) text v x
reads_is_by_the_rules text CStr v x =
    strings CStr (frame CStr (Many c_str_inside) 34) parse_lit_c_str_raw (λ v. refl) refl c_str_cooked
    (raws CStr (λ c. not (eqb c 0)) parse_lit_c_str_raw (raw_rule CStr (λ c. not (eqb c 0)) (λ cs. refl) refl)
    (λ u x v m. (v, m, refl)) (λ u x w m. (m.0, m.2, m.1))) text v x
reads_is_by_the_rules text Byte v x = singles Byte (frame Byte byte_inside 39) (λ v. refl) refl byte_cooked text v x
reads_is_by_the_rules text Char v x = singles Char (frame Char char_inside 39) (λ v. refl) refl char_cooked text v x
reads_is_by_the_rules text Int v x = int_rule text v x
reads_is_by_the_rules text Float v x = float_rule text v x
reads_is_by_the_rules text BoolKind v x = truth_rule any_text ([], (refl, refl)) text v x
