use Rattle.rl_syntax.proofs.Common.{◌≡◌, encode_utf8_all, string_bytes, take}
use Rattle.rl_tokens.specs.WrittenLists.{characters_of, str_list_text}
use Rattle.rl_tokens.proofs.writer.write_str_list.Given as goal

abbrev pub invariant-loop-value : goal.invariant-loop-value
invariant-loop-value g l =
    string_bytes l.text ≡ encode_utf8_all (str_list_text (characters_of (take l.value-index l.values)))
