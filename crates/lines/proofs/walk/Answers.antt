-- `lines::walk` meets its contract: at each line the rest of the text is judged as the whole is, and storing its forms stores all.
use mathlib.Core.Path.{◌≡◌}
use borrow.Author.Rules.{rules}
use Rattle.std.specs.Prelude.{Ok, Err}
use Rattle.judging.specs.Judging.{failed}
use native.Mathlib.Omega.{arith}
use Rattle.lines.proofs.MoveLaws.{judgeable, line_moves}
use Rattle.lines.proofs.WalkLaws.{walk_long, walk_start, walk_on, walk_stop, walk_ended}
use Rattle.lines.proofs.walk.Goals as goal

pub returns-then-text-gt-MAX_BYTES : goal.returns-then-text-gt-MAX_BYTES
returns-then-text-gt-MAX_BYTES c = walk_long _ _ _ c.if-text-gt-MAX_BYTES.true

pub loop-at-init : goal.loop-at-init
loop-at-init c = walk_start _ _ _ _ c.if-text-gt-MAX_BYTES.false c.start-reached.ensures

pub read_form-line-requires : goal.read_form-line-requires
read_form-line-requires c = c.loop-at.invariant.ready

pub judge_line-moved-requires : goal.judge_line-moved-requires
judge_line-moved-requires c = let inv = c.loop-at.invariant in
    judgeable inv.ready c.read_form-line.ensures inv.fitting

pub loop-at-smaller : goal.loop-at-smaller
loop-at-smaller c = let inv = c.loop-at.invariant in
    let moves = line_moves _ inv.ready c.read_form-line.ensures c.judge_line-moved.ensures in
    let on : c.judge_line-moved.result ≡ Ok (c.in_ok-then.then, c.in_ok-then.next) = search rules in
    omega (arith, (walk_on inv moves on).1, c.loop-at-test.true)

pub loop-at-preserved : goal.loop-at-preserved
loop-at-preserved c = let inv = c.loop-at.invariant in
    let on : c.judge_line-moved.result ≡ Ok (c.in_ok-then.then, c.in_ok-then.next) = search rules in
    (walk_on inv (line_moves _ inv.ready c.read_form-line.ensures c.judge_line-moved.ensures) on).0

pub returns-in_err-then : goal.returns-in_err-then
returns-in_err-then c = let inv = c.loop-at.invariant in
    let stop : c.judge_line-moved.result ≡ Err c.in_err-then.field-0.0.fault = search rules in
    let told : c.from_residual.result ≡ failed c.in_err-then.field-0.0.fault c.loop-at.at = search rules in
    rw told (walk_stop inv c.loop-at-test.true (line_moves _ inv.ready c.read_form-line.ensures c.judge_line-moved.ensures) stop)

pub returns : goal.returns
returns c = walk_ended c.loop-at.invariant c.loop-at-test.false _ c.ended.ensures
