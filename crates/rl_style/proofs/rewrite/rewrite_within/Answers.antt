use Rattle.rl_syntax.proofs.Common.{◌≤◌, ◌∙◌, ap, arith, inr, length, subst, sym}
use Rattle.std.specs.Str.{chars}
use Rattle.std.proofs.lemmas.Result.{IfOk-weaker}
use Rattle.rl_style.proofs.Room.{grown_least, room_number, room_quoted}
use Rattle.rl_style.proofs.QuotedParts.{word_kept}
use Rattle.rl_style.proofs.rewrite.rewrite_within.Goals as goal

pub returns-in-None-clause-written : goal.returns-in-None-clause-written
returns-in-None-clause-written c = inr (inr (inr (inr (word_kept (chars c.args.text.now) _ c.in_ok-reading.ensures.token
    (sym c.begins_digit.ensures ∙ c.if-begins_digit.false) (sym c.in-None.ensures)
    (ap chars c.put_text.ensures.bytes)))))

pub returns-then-begins_digit-clause-written : goal.returns-then-begins_digit-clause-written
returns-then-begins_digit-clause-written c = IfOk-weaker c.rewrite_number.result _ _
    (λ n written. written (chars c.args.front.now)) c.rewrite_number.ensures.written

pub rewrite_number-requires-clause-room : goal.rewrite_number-requires-clause-room
rewrite_number-requires-clause-room c = subst (λ z. z ≤ length c.args.out.now) (room_number c.args.style c.args.text.now
    (sym c.begins_digit.ensures ∙ c.if-begins_digit.true)) c.requires

pub returns-then-begins_digit-clause-within : goal.returns-then-begins_digit-clause-within
returns-then-begins_digit-clause-within c = IfOk-weaker c.rewrite_number.result _ _ (λ n less. subst (λ z. n ≤ z)
    (sym (room_number c.args.style c.args.text.now (sym c.begins_digit.ensures ∙ c.if-begins_digit.true))) less)
    c.rewrite_number.ensures.within

pub write_quoted-requires-clause-room : goal.write_quoted-requires-clause-room
write_quoted-requires-clause-room c = subst (λ z. z ≤ length c.args.out.now) (room_quoted c.args.style c.args.text.now
    (sym c.begins_digit.ensures ∙ c.if-begins_digit.false)) c.requires

pub returns-in-Some-clause-within : goal.returns-in-Some-clause-within
returns-in-Some-clause-within c = subst (λ z. c.write_quoted.result ≤ z) (sym (room_quoted c.args.style c.args.text.now
    (sym c.begins_digit.ensures ∙ c.if-begins_digit.false))) c.write_quoted.ensures.within

pub put_text-requires : goal.put_text-requires
put_text-requires c =
    let room = subst (λ z. z ≤ length c.args.out.now) (room_quoted c.args.style c.args.text.now
    (sym c.begins_digit.ensures ∙ c.if-begins_digit.false)) c.requires in
    omega (arith, grown_least c.args.style (length c.args.text.now), room)

pub returns-in-None-clause-within : goal.returns-in-None-clause-within
returns-in-None-clause-within c = subst (λ z. c.put_text.result ≤ z) (sym (room_quoted c.args.style c.args.text.now
    (sym c.begins_digit.ensures ∙ c.if-begins_digit.false)))
    (omega (arith, c.put_text.ensures.end, grown_least c.args.style (length c.args.text.now)))
