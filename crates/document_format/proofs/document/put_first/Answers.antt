use Rattle.std.proofs.Common.{subst, sym, append-nil}
use Rattle.std.specs.List.{flat_map}
use Rattle.base_devices.specs.Pending.{outlet, Went}
use Rattle.base_devices.proofs.Outlets.{went-then}
use Rattle.document_format.specs.DocumentText.{ended, first_lines}
use Rattle.document_format.proofs.document.put_first.Goals as goal

pub returns : goal.returns
returns g c =
    let old = outlet (g.K.Sink.state c.args.sink.now) c.args.out.now in
    let mid = outlet (g.K.Sink.state c.put_line.new.sink) c.put_line.new.out in
    let new = outlet (g.K.Sink.state c.put_numbered-2.new.sink) c.put_numbered-2.new.out in
    let last = rw (c.servers_of.ensures, c.deref.ensures.value) at c.put_numbered-2.ensures in
    subst (λ z. Went old new (flat_map ended (first_lines z))) c.net.view_is
    (went-then _ _ _ _ _ c.put_numbered.ensures (went-then _ _ _ _ _ (rw c.semantics_word.ensures at c.put_line.ensures) (subst (Went mid new) (sym (append-nil _)) last)))
