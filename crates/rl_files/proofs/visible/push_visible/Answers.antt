use Rattle.std.proofs.Common.{◌++◌, ◌∙◌, ap, sym, string_bytes, encode_utf8_all}
use Rattle.std.proofs.Utf8Push.{IsUtf8-string_bytes}
use Rattle.std.proofs.lemmas.Iterator.{YieldsList-from_chars}
use Rattle.std.proofs.lemmas.Iterator.Consumers.{YieldsList-end}
use Rattle.std.proofs.lemmas.List.{map-id}
use Rattle.rl_files.specs.Visible.{visible, visible_char}
use Rattle.rl_files.proofs.VisibleLemmas.{written_more, chars_written, printable_text, appended}
use Rattle.rl_files.proofs.visible.push_visible.Goals as goal

pub returns-then-are_printable : goal.returns-then-are_printable
returns-then-are_printable g c = appended visible (string_bytes c.args.out.now) _ c.args.text.now
    (IsUtf8-string_bytes c.args.out.now) c.in_ok-push_str.ensures.bytes (printable_text c.args.text.now
    (rw c.as_bytes.ensures.value at (sym c.are_printable.ensures ∙ c.if-are_printable.true)))

pub loop-c-preserved : goal.loop-c-preserved
loop-c-preserved g c = written_more visible_char (string_bytes c.args.out.now) _ _ c.loop-c.yielded c.in-Some.c
    c.loop-c.invariant c.in_ok-push_visible_char.ensures

pub returns : goal.returns
returns g c =
    let t = YieldsList-end (YieldsList-from_chars c.args.text.now c.utf8.text cc) c.loop-c.yielded _
    c.loop-c.yielded_by _ _ c.in-None.is c.next.ensures.steps in
    chars_written (string_bytes c.args.out.now) _ _ (IsUtf8-string_bytes c.args.out.now)
    (IsUtf8-string_bytes c.loop-c.out) (c.loop-c.invariant ∙ ap
    (λ z. string_bytes c.args.out.now ++ encode_utf8_all (visible z)) (sym (map-id c.loop-c.yielded) ∙ t.0))
