-- The literal that is written for a value has the properties that callers rely on (`IsWrittenForm`).
use Rattle.rl_syntax.proofs.Common.{◌≡◌, ℕ, suc, ◌<◌, ◌&&◌, true, not, eqb, List, [], ◌∷◌, length, refl, sym, subst, get_or, arith, nat_lt, list_all, and_from, and_parts, lt-ltb}
use Rattle.rl_syntax.specs.declared.kind.Kind.{Kind}
use Rattle.rl_syntax.specs.declared.kind.Kind.TheVariants.{ByteStr, CStr, Byte}
use Rattle.rl_syntax.specs.Reading.{Reads, quoted_contents}
use Rattle.rl_syntax.specs.Strict.{Strict}
use Rattle.rl_syntax.specs.Written.{written_text, IsWrittenForm}
use Rattle.rl_syntax.specs.Agreeing.{has_no_zero, IsQuotedValue, AreBytesOf}
use Rattle.rl_syntax.proofs.WrittenLaws.{written_reads, written_strict}

-- The literal that is written for a value has the property `IsWrittenForm`: by both grammars it has that value and no
-- suffix.
pub written_form : (k : Kind) (v t : List ℕ) → IsQuotedValue k v → t ≡ written_text k v → IsWrittenForm k v t
written_form k v t h e = record {
  text_is = e;
  reads = subst (λ z. Reads z k (quoted_contents k v) []) (sym e) (written_reads k v h);
  strict = subst (λ z. Strict z k (quoted_contents k v) []) (sym e) (written_strict k v h);
}

-- If each element of a list is below 256, the list consists of bytes.
pub all_bytes : (v : List ℕ) → ((i : ℕ) → i < length v → get_or v i 0 < 256) → list_all (λ c. nat_lt c 256) v ≡ true
all_bytes [] h = refl
all_bytes (c ∷ v) h = and_from _ _ (lt-ltb c 256 (h 0 (omega arith))) (all_bytes v (λ i l. h (suc i) (omega arith)))

both_tests : (v : List ℕ) → list_all (λ c. nat_lt c 256) v ≡ true → has_no_zero v ≡ true
    → list_all (λ c. nat_lt c 256 && not (eqb c 0)) v ≡ true
both_tests [] h n = refl
both_tests (c ∷ v) h n =
    let p = and_parts _ _ h in
    let q = and_parts _ _ n in
    and_from _ _ (and_from _ _ p.0 q.0) (both_tests v p.1 q.1)

-- Bytes that a literal of the kind can have as its value (`AreBytesOf`) are a value of a quoted literal of the kind
-- (`IsQuotedValue`).
pub bytes_value : (k : Kind) (v : List ℕ) → AreBytesOf k v → list_all (λ c. nat_lt c 256) v ≡ true → IsQuotedValue k v
bytes_value ByteStr v h b = b
bytes_value Byte v h b = (h, b)
bytes_value CStr v h b = both_tests v b h
bytes_value kind v h b = absurd h
