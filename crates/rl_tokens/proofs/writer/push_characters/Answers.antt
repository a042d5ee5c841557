use Rattle.rl_syntax.proofs.Common.{◌≡◌, ◌<◌, ◌++◌, ◌+◌, ◌∙◌, ℕ, List, [], sym, ap, take, length, string_bytes, rules, arith, inl, common_steps, chars, encode_utf8, IsUtf8-string_bytes}
use Rattle.std.proofs.lemmas.Iterator.{YieldsList-from_chars}
use Rattle.std.proofs.lemmas.Iterator.Consumers.{YieldsList-end, YieldsList-so_far, YieldsList-turn}
use Rattle.std.proofs.lemmas.List.{map-id}
use Rattle.std.specs.Prelude.{String, string_capacity, string_len}
use Rattle.rl_syntax.specs.Texts.{byte_len}
use Rattle.rl_syntax.specs.declared.kind.Kind.{Kind}
use Rattle.rl_syntax.specs.Written.{closer, written_text}
use Rattle.rl_syntax.proofs.WritingLemmas.{begun_start, begun_more_after, begun_whole_after, begun_front}
use Rattle.rl_tokens.proofs.RoomLemmas.{begun_closed, begun_len, begun_next, begun_within}
use Rattle.rl_tokens.proofs.writer.push_characters.Goals as goal

-- The string has no room for the literal that represents the text `value`.
abbrev Lacks : {A : Type 0} → String A → Kind → List ℕ → Type 0
Lacks out kind value = string_capacity out < string_len out + byte_len (written_text kind (chars value))

pub loop-c-init : goal.loop-c-init
loop-c-init g c =
    let start = begun_start c.args.kind _ c.opener.ensures in
    record {
      bytes = c.in_ok-push_str.ensures.bytes ∙ ap (λ z. string_bytes c.args.out.now ++ z) start;
      len = c.in_ok-push_str.ensures.len ∙ ap (λ z. string_len c.args.out.now + length z) start;
      capacity = c.in_ok-push_str.ensures.capacity;
    }

pub push_written-requires : goal.push_written-requires
push_written-requires g c = inl c.requires

pub loop-c-smaller : goal.loop-c-smaller
loop-c-smaller g c = grind (arith, common_steps)

pub loop-c-preserved : goal.loop-c-preserved
loop-c-preserved g c =
    let before = c.loop-c.invariant in
    record {
      bytes = begun_more_after c.args.kind (string_bytes c.args.out.now) _ _ c.loop-c.yielded c.in-Some.c
          before.bytes c.in_ok-push_written.ensures.bytes;
      len = omega (arith, before.len, c.in_ok-push_written.ensures.len, begun_len c.args.kind c.loop-c.yielded c.in-Some.c);
      capacity = omega (arith, before.capacity, c.push_written.ensures.capacity);
    }

pub returns-in_err-push_written-clause-front : goal.returns-in_err-push_written-clause-front
returns-in_err-push_written-clause-front g c =
    let front : take (length (string_bytes c.args.out.now)) (string_bytes c.push_written.new.out)
    ≡ string_bytes c.args.out.now = begun_front c.args.kind _ _ _ c.loop-c.yielded c.loop-c.invariant.bytes
    c.in_err-push_written.ensures.bytes in
    search rules

pub returns-clause-text : goal.returns-clause-text
returns-clause-text g c =
    let t = YieldsList-end (YieldsList-from_chars c.args.value.now c.utf8.value cc) c.loop-c.yielded _
    c.loop-c.yielded_by _ _ c.in-None.is c.next.ensures.steps in
    let last : string_bytes c.push.new.self ≡ string_bytes c.loop-c.out
    ++ encode_utf8 c.quote.result = c.in_ok-push.ensures.bytes in
    let pushed : string_bytes c.push.new.self ≡ string_bytes c.loop-c.out ++ encode_utf8 (closer c.args.kind) = last
    ∙ ap (λ z. string_bytes c.loop-c.out ++ encode_utf8 z) c.quote.ensures.value in
    begun_whole_after c.args.kind (string_bytes c.args.out.now) _ _ c.loop-c.yielded (chars c.args.value.now)
    c.loop-c.invariant.bytes pushed (sym (map-id c.loop-c.yielded) ∙ t.0) (IsUtf8-string_bytes c.args.out.now)
    (IsUtf8-string_bytes c.push.new.self)

pub returns-in_err-push-clause-front : goal.returns-in_err-push-clause-front
returns-in_err-push-clause-front g c =
    let front : take (length (string_bytes c.args.out.now)) (string_bytes c.push.new.self)
    ≡ string_bytes c.args.out.now = begun_front c.args.kind _ _ _ c.loop-c.yielded c.loop-c.invariant.bytes
    c.in_err-push.ensures.bytes in
    search rules

pub returns-in_err-push_str-clause-full : goal.returns-in_err-push_str-clause-full
returns-in_err-push_str-clause-full g c =
    let full : Lacks c.args.out.now c.args.kind c.args.value.now = omega (
      arith,
      c.in_err-push_str.ensures.full,
      ap length (begun_start c.args.kind _ c.opener.ensures),
      begun_within c.args.kind [] (chars c.args.value.now),
    ) in
    search rules

pub returns-in_err-push_written-clause-full : goal.returns-in_err-push_written-clause-full
returns-in_err-push_written-clause-full g c =
    let road = YieldsList-from_chars c.args.value.now c.utf8.value cc in
    let turn = YieldsList-turn road c.loop-c.yielded _ c.loop-c.yielded_by _ _ c.in-Some.c c.in-Some.is c.next.ensures.steps in
    let before = sym (map-id c.loop-c.yielded) ∙ YieldsList-so_far road c.loop-c.yielded _ c.loop-c.yielded_by in
    let within = begun_next c.args.kind (chars c.args.value.now) c.loop-c.yielded c.in-Some.c before turn.0 turn.1 in
    let full : Lacks c.args.out.now c.args.kind c.args.value.now = omega (
      arith,
      c.in_err-push_written.ensures.full,
      c.loop-c.invariant.len,
      c.loop-c.invariant.capacity,
      within,
    ) in
    search rules

pub returns-in_err-push-clause-full : goal.returns-in_err-push-clause-full
returns-in_err-push-clause-full g c =
    let t = YieldsList-end (YieldsList-from_chars c.args.value.now c.utf8.value cc) c.loop-c.yielded _
    c.loop-c.yielded_by _ _ c.in-None.is c.next.ensures.steps in
    let whole = begun_closed c.args.kind c.loop-c.yielded (chars c.args.value.now) (sym (map-id c.loop-c.yielded) ∙ t.0) in
    let full : Lacks c.args.out.now c.args.kind c.args.value.now = omega (
      arith,
      c.in_err-push.ensures.full,
      ap (λ z. length (encode_utf8 z)) c.quote.ensures.value,
      c.loop-c.invariant.len,
      c.loop-c.invariant.capacity,
      whole,
    ) in
    search rules
