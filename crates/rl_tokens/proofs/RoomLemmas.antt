-- The number of bytes that a writer of a quoted literal has written so far is at most that of the whole literal.
use Rattle.rl_syntax.proofs.Common.{◌≡◌, ◌<◌, ◌≤◌, ◌+◌, ℕ, List, [], ◌∷◌, ◌++◌, map, length, length-append, take, drop, get_or, refl, sym, ap, ◌∙◌, arith, append_assoc, append-nil, map-append, take-append-drop, take_more, encode_utf8}
use Rattle.std.proofs.lemmas.List.Concat.{flat_map-append}
use Rattle.rl_lexer.proofs.CutLemmas.{byte_len-append}
use Rattle.rl_syntax.proofs.WritingLemmas.{begun, begun_more}
use Rattle.rl_syntax.specs.declared.kind.Kind.{Kind}
use Rattle.rl_syntax.specs.Quoted.{opener, texts, unit_text}
use Rattle.rl_syntax.specs.Texts.{byte_len}
use Rattle.rl_syntax.specs.Written.{closer, written_text, written_unit}

-- The bytes of a literal are those written for its first characters, those of the other characters, and the closing delimiter.
parts : (k : Kind) (xs ys : List ℕ) → byte_len (written_text k (xs ++ ys))
    ≡ length (begun k xs) + (byte_len (texts (map (written_unit k) ys)) + length (encode_utf8 (closer k)))
parts k xs ys =
    let first = texts (map (written_unit k) xs) in
    let later = texts (map (written_unit k) ys) in
    let both : texts (map (written_unit k) (xs ++ ys)) ≡ first ++ later = ap texts (map-append (written_unit k) xs ys)
    ∙ flat_map-append unit_text (map (written_unit k) xs) (map (written_unit k) ys) in
    let all : written_text k (xs ++ ys) ≡ (opener k ++ first) ++ (later ++ (closer k ∷ [])) =
    ap (λ z. opener k ++ (z ++ (closer k ∷ []))) both ∙ ap (λ z. opener k ++ z) (append_assoc first later (closer k ∷ []))
    ∙ sym (append_assoc (opener k) first (later ++ (closer k ∷ []))) in
    omega (
      arith,
      ap byte_len all,
      byte_len-append (opener k ++ first) (later ++ (closer k ∷ [])),
      byte_len-append later (closer k ∷ []),
      ap length (append-nil (encode_utf8 (closer k))),
    )

pub begun_within : (k : Kind) (xs ys : List ℕ) → length (begun k xs) ≤ byte_len (written_text k (xs ++ ys))
begun_within k xs ys = omega (arith, parts k xs ys)

pub begun_closed : (k : Kind) (xs ys : List ℕ) → xs ≡ ys
    → byte_len (written_text k ys) ≡ length (begun k xs) + length (encode_utf8 (closer k))
begun_closed k xs ys same = omega (arith, ap (λ z. byte_len (written_text k z)) (sym same ∙ sym (append-nil xs)), parts k xs [])

pub begun_len : (k : Kind) (xs : List ℕ) (c : ℕ)
    → length (begun k (xs ++ (c ∷ []))) ≡ length (begun k xs) + byte_len (unit_text (written_unit k c))
begun_len k xs c = sym (ap length (begun_more k (begun k xs) _ xs c refl refl)) ∙ length-append (begun k xs) _

-- The characters `xs` are the first ones of `all`, and `c` is the next one.
pub begun_next : (k : Kind) (all xs : List ℕ) (c : ℕ) → xs ≡ take (length xs) all → length xs < length all
    → c ≡ get_or all (length xs) c → length (begun k xs) + byte_len (unit_text (written_unit k c)) ≤ byte_len (written_text k all)
begun_next k all xs c before within next =
    let n = length xs in
    let more : take (n + 1) all ≡ xs ++ (c ∷ []) = take_more all n c within ∙ ap (λ z. take n all ++ (z ∷ [])) (sym next)
    ∙ ap (λ z. z ++ (c ∷ [])) (sym before) in
    let whole : (xs ++ (c ∷ [])) ++ drop (n + 1) all ≡ all = ap (λ z. z ++ drop (n + 1) all) (sym more)
    ∙ take-append-drop (n + 1) all in
    omega (
      arith,
      begun_len k xs c,
      begun_within k (xs ++ (c ∷ [])) (drop (n + 1) all),
      ap (λ z. byte_len (written_text k z)) whole,
    )
