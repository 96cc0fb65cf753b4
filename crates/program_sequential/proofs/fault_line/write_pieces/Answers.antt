use Rattle.std.proofs.Common.{[], suc, ◌∷◌, ◌++◌, take, drop, slice_index_or, sym, subst}
use Rattle.std.proofs.Math.Seq.{split_at}
use Rattle.base.proofs.Results.{on-err}
use Rattle.base_devices.specs.Sinks.{TookFront}
use Rattle.program_sequential.specs.Pieces.{joined}
use Rattle.program_sequential.proofs.Pieces.{cut-short}
use Rattle.program_sequential.proofs.fault_line.write_pieces.Goals as goal

-- src/fault_line.rt:18:9
pub returns-in_err-write_all-clause-err : goal.returns-in_err-write_all-clause-err
returns-in_err-write_all-clause-err g c =
    let pieces = c.args.pieces.now in
    let i = c.loop-piece.piece-index in
    let piece = slice_index_or pieces i (record { ref_ptr = (0, 0); now = [] }) in
    on-err c.from_residual.result (subst (λ l. TookFront (g.K.Sink.state c.args.sink.now) (g.K.Sink.state c.write_all.new.sink) (joined l))
    (sym (split_at pieces i (record { ref_ptr = (0, 0); now = [] }) c.loop-piece-test.true))
    (cut-short _ _ _ (take i pieces) (drop (suc i) pieces) piece c.loop-piece.invariant.0 c.in_err-write_all.ensures.err))
