use Rattle.std.proofs.Common.{arith}
use Rattle.rl_files.proofs.WalkLemmas.{go_start, go_none, go_file, go_bad_path, go_missing, go_given, go_enter, entered_none, entered_next, ended_early}
use Rattle.rl_files.proofs.walk.Walk.next.Goals as goal

pub returns-in_default : goal.returns-in_default
returns-in_default g c = go_none c.args.selection _ _ _ c.loop.invariant.on c.in_default.ensures

pub returns-in-File : goal.returns-in-File
returns-in-File g c = go_file c.args.selection _ _ _ _ _ c.loop.invariant.on (rw c.in-File.is at c.in-Some.ensures)

pub returns-in-BadPath : goal.returns-in-BadPath
returns-in-BadPath g c = go_bad_path c.args.selection _ _ _ _ _ _ c.loop.invariant.on
    (rw c.in-BadPath.is at c.in-Some.ensures)

pub returns-in-Err-NotADirectory : goal.returns-in-Err-NotADirectory
returns-in-Err-NotADirectory g c = go_given c.args.selection _ _ _ _ c.in-Directory.from _ c.loop.invariant.on
    (rw c.in-Directory.is at c.in-Some.ensures) c.if-is_given.ensures
    (rw (c.as_str.ensures.value, c.in-Err-NotADirectory.field-0-is) at c.in-Err-NotADirectory.ensures)

pub returns-in-Err : goal.returns-in-Err
returns-in-Err g c = go_missing c.args.selection _ _ _ _ c.in-Directory.from _ _ c.loop.invariant.on
    (rw c.in-Directory.is at c.in-Some.ensures) (rw (c.as_str.ensures.value, ← c.in-Err.why-is) at c.in-Err.ensures)

pub loop-init : goal.loop-init
loop-init g c = record {
  on = go_start c.args.selection _ _;
  entered = entered_none c.args.selection _ _;
}

pub loop-preserved : goal.loop-preserved
loop-preserved g c =
    let is = rw c.in-Directory.is at c.in-Some.ensures in
    let found = rw c.as_str.ensures.value at c.in-Ok.ensures in
    let enters = rw (c.argument_len-base.ensures, c.as_str-in-Ok.ensures.value, c.as_str-in-Ok-2.ensures.value) at c.in-Ok-enter.ensures in
    record {
      on = go_enter c.args.selection _ _ _ _ _ c.in-Directory.from _ _ c.loop.invariant.on is found enters;
      entered = entered_next c.args.selection _ _ _ _ _ _ c.in-Directory.from _ _ c.loop.invariant.entered is found enters;
    }

pub returns : goal.returns
returns g c = ended_early c.args.selection _ _ _ c.loop.counter c.loop.invariant.entered (omega (arith, c.loop-test.false))
