-- Ends of a text: their lengths, and the end of the text from an offset on.
use Rattle.rl_syntax.proofs.Common.{◌≡◌, ℕ, ◌≤◌, List, ◌++◌, length, take, drop, sym, ◌∙◌, ap, arith, length-append, take-append-drop, IsUtf8}
use Rattle.rl_syntax.specs.Texts.{IsTail}

pub tail_drop : (t r : List ℕ) (n : ℕ) → r ≡ drop n t → IsUtf8 r → IsTail t r
tail_drop t r n e u = record { front = take n t; text_is = sym (take-append-drop n t) ∙ ap (λ x. take n t ++ x) (sym e); is_text = u }

pub tail_length : (t r : List ℕ) → IsTail t r → length r ≤ length t
tail_length t r b = omega (arith, ap length b.text_is, length-append b.front r)
