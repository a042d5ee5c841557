-- No white space character continues an identifier.
use Rattle.std.proofs.Common.{◌≡◌, inl, inr, ℕ, zero, suc, ◌<◌, ◌≤◌, ◌+◌, Bool, true, false, not, ◌&&◌, ◌||◌, ◌==◌, nat_lt, refl, ◌∙◌, ap, arith}
use Rattle.std.proofs.lemmas.Bool.{eqb-true, or_cases, and_parts, not-true, both_ways, false_from_ne_true, and_from}
use Rattle.std.proofs.lemmas.Bool.Decides.{nat_tests}
use Rattle.rl_syntax.specs.Texts.{is_white, is_start, is_continue}
use Rattle.rl_syntax.proofs.Basics.{start_continues}
use Rattle.unicode_ident.specs.Ident.{is_xid_start, is_xid_continue}
use Rattle.unicode_ident.proofs.Computing.{unicode_ident}

-- Whether the test fails for `count` numbers from `n` on.
fails_from : (ℕ → Bool) → ℕ → ℕ → Bool
fails_from test n zero = true
fails_from test n (suc count) = not (test n) && fails_from test (suc n) count

range_fails : (test : ℕ → Bool) (count n c : ℕ) → fails_from test n count ≡ true → n ≤ c → c < n + count
    → test c ≡ false
unfolding fails_from
range_fails test zero n c h low high = absurd (omega (arith, low, high))
range_fails test (suc count) n c h low high =
    let (here, more) = and_parts (not (test n)) (fails_from test (suc n) count) h in
    go (c == n) refl (not-true (test n) here) (λ l. range_fails test count (suc n) c more l (omega (arith, high)))
  where
    go : (b : Bool) → (c == n) ≡ b → test n ≡ false → (suc n ≤ c → test c ≡ false) → test c ≡ false
    go true e here next = ap test (eqb-true c n e) ∙ here
    go false e here next = next (grind (arith, nat_tests))

-- If the test `a` fails for the identifier character, the test of `a` and one more character fails.
or_at : (c k : ℕ) (a : Bool) → is_xid_continue k ≡ false → (a ≡ true → is_xid_continue c ≡ false)
    → (a || c == k) ≡ true → is_xid_continue c ≡ false
or_at c k a fails others h =
    elim (or_cases a (c == k) h) [
      | inl e ↦ others e
      | inr e ↦ ap is_xid_continue (eqb-true c k e) ∙ fails
    ]

spaces : (c : ℕ) → (nat_lt 8191 c && nat_lt c 8203) ≡ true → is_xid_continue c ≡ false
unfolding unicode_ident fails_from
spaces c h = range_fails is_xid_continue 11 8192 c refl (grind (arith, nat_tests)) (grind (arith, nat_tests))

controls : (c : ℕ) → (nat_lt 8 c && nat_lt c 14) ≡ true → is_xid_continue c ≡ false
unfolding unicode_ident fails_from
controls c h = range_fails is_xid_continue 5 9 c refl (grind (arith, nat_tests)) (grind (arith, nat_tests))

or_spaces : (c : ℕ) (a : Bool) → (a ≡ true → is_xid_continue c ≡ false)
    → (a || (nat_lt 8191 c && nat_lt c 8203)) ≡ true → is_xid_continue c ≡ false
or_spaces c a others h =
    elim (or_cases a (nat_lt 8191 c && nat_lt c 8203) h) [
      | inl e ↦ others e
      | inr e ↦ spaces c e
    ]

white_not_continue : (c : ℕ) → is_white c ≡ true → is_xid_continue c ≡ false
unfolding unicode_ident
white_not_continue c h =
    or_at c 8207 _ refl (or_at c 8206 _ refl (or_at c 12288 _ refl (or_at c 8287 _ refl (or_at c 8239 _ refl
    (or_at c 8233 _ refl (or_at c 8232 _ refl (or_spaces c _ (or_at c 5760 _ refl (or_at c 160 _ refl (or_at c 133 _ refl
    (or_at c 32 _ refl (controls c)))))))))))) h

continue_not_white : (c : ℕ) → is_xid_continue c ≡ true → not (is_white c) ≡ true
continue_not_white c h =
    ap not (false_from_ne_true (is_white c) (λ e. both_ways (is_xid_continue c) (white_not_continue c e) h))

-- So the characters of identifiers are those of XID_Continue.
pub continues : (c : ℕ) → is_xid_continue c ≡ true → is_continue c ≡ true
continues c h = and_from (is_xid_continue c) (not (is_white c)) h (continue_not_white c h)

pub starts : (c : ℕ) → (c == 95 || is_xid_start c) ≡ true → is_start c ≡ true
starts c h = and_from (c == 95 || is_xid_start c) (not (is_white c)) h (continue_not_white c (start_continues c h))
