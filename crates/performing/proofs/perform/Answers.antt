-- Each arm of the match is one kind of call.
use Rattle.std.proofs.Common.{sym}
use Rattle.pcl.specs.Numbers.{read_packed, write_call_number, done_number, slice_packed}
use Rattle.performing.specs.Perform.{call_line, read_line, slice_line, performed}
use Rattle.performing.specs.Laws.LineLaws.{slice_says, slice_line_lem}
use Rattle.performing.proofs.Told.{told, told_as}
use Rattle.performing.proofs.perform.Goals as goal

pub returns-in-Fit : goal.returns-in-Fit
unfolding performed
returns-in-Fit c = rw c.in-Fit.is c.perform_fit.ensures

pub returns-in-WordWrite : goal.returns-in-WordWrite
unfolding performed
returns-in-WordWrite c =
    rw c.in-WordWrite.is (told _ (λ answer. call_line 2 (write_call_number answer)) _ c.call_line.ensures c.write.ensures)

pub returns-in-WordRead : goal.returns-in-WordRead
unfolding performed
returns-in-WordRead c = rw c.in-WordRead.is (told _ (λ answer. read_line (read_packed answer)) _ c.read_line.ensures c.read.ensures)

pub returns-in-Slice : goal.returns-in-Slice
unfolding performed
returns-in-Slice c =
    let a = c.args in
    let slice = c.in-Slice in
    rw slice.is
    (told_as _ slice_says (λ answer. slice_line (slice_packed answer)) _ c.slice_line.ensures c.slice.ensures
    (sym (slice_line_lem a.cells.now slice.mask slice.parity)))

pub returns-in-Move : goal.returns-in-Move
unfolding performed
returns-in-Move c = rw c.in-Move.is c.perform_move.ensures

pub returns-in-Period : goal.returns-in-Period
unfolding performed
returns-in-Period c = rw c.in-Period.is (told _ (λ answer. call_line 6 (done_number answer)) _ c.call_line-in-Period.ensures c.pass_period.ensures)

pub returns-in-Reset : goal.returns-in-Reset
unfolding performed
returns-in-Reset c = rw c.in-Reset.is (told _ (λ answer. call_line 7 (done_number answer)) _ c.call_line-in-Reset.ensures c.reset.ensures)

pub returns-in-ByteWrite : goal.returns-in-ByteWrite
unfolding performed
returns-in-ByteWrite c =
    rw c.in-ByteWrite.is (told _ (λ answer. call_line 8 (write_call_number answer)) _ c.call_line-in-ByteWrite.ensures c.write_byte.ensures)

pub returns-in-Level : goal.returns-in-Level
unfolding performed
returns-in-Level c = rw (c.in-Level.is, c.level_line.ensures, c.level.ensures)
