use Rattle.rl_strict.proofs.Names.{◌∙◌, sym}
use Rattle.rl_strict.proofs.AsciiSuffix.{word_bytes}
use Rattle.rl_strict.proofs.read_numbers.is_ascii_word.Goals as goal

pub returns : goal.returns
returns c = λ h. word_bytes _ _ c.as_bytes-bytes.ensures.value (sym c.is_ascii_alphabetic.ensures.value ∙
    c.if-not-is_ascii_alphabetic.false) (sym c.are_suffix_bytes.ensures ∙ h)
