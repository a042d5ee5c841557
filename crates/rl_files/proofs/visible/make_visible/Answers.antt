use Rattle.std.proofs.Common.{sym, ◌∙◌}
use Rattle.rl_files.proofs.VisibleLemmas.{plain_end}
use Rattle.std.proofs.Utf8Push.{IsUtf8-string_bytes}
use Rattle.std.proofs.lemmas.Str.{IsUtf8-take}
use Rattle.rl_files.proofs.visible.make_visible.Goals as goal

pub returns-then-are_plain : goal.returns-then-are_plain
returns-then-are_plain g c = plain_end _ c.args.from (IsUtf8-take _ c.args.from (IsUtf8-string_bytes c.args.text.now)
    c.requires) (rw (c.as_bytes.ensures.value, c.range_from-lines.ensures.value, c.as_str.ensures.value) at
    (sym c.are_plain.ensures ∙ c.if-are_plain.true))
