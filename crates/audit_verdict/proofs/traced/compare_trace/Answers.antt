use Rattle.std.proofs.Common.{◌≡◌, ◌++◌, ◌∷◌, [], List, take, get_or, length, refl, ap, subst, ◌∙◌, arith, ◌+◌, length-append}
use Rattle.std.proofs.Math.Seq.{take-length}
use Rattle.filter_text.specs.declared.sent.Sent.{Sent}
use Rattle.net_turns.specs.Retold.{turn_of_entry}
use Rattle.output_report.specs.Trace.{entries_text, entry_text, trace_head}
use Rattle.audit_verdict.specs.Comparing.{GoesOn}
use Rattle.audit_verdict.proofs.Pieces.{goes_nowhere, goes_then}
use Rattle.audit_verdict.proofs.Runs.{entries_more}
use Rattle.audit_verdict.proofs.traced.compare_trace.Goals as goal

pub loop-entry-init : goal.loop-entry-init
loop-entry-init g c = ([], g.P.Ruled.telling.retold_none c.args.tables.now c.args.journal.now c.in_ok-network.network [] c.in_ok-network.ensures refl, refl, goes_nowhere c.compare_head.new.text)

pub loop-entry-preserved : goal.loop-entry-preserved
loop-entry-preserved g c =
    let (told, again, many, went) = c.loop-entry.invariant in
    let i = c.loop-entry.entry-index in
    let net = c.args.tables.now in
    let journal = c.args.journal.now in
    let entry = c.entry-item.result in
    let turn-is : c.turn_of.result ≡ turn_of_entry (get_or journal i entry) = c.turn_of.ensures ∙ ap turn_of_entry c.entry-item.is in
    let last : List Sent = c.in_ok-told.told in
    let clients-are : c.clients_of-clients.result.now ≡ net.clients = c.clients_of-clients.ensures in
    let text : GoesOn c.loop-entry.text c.compare_entry.new.text (entry_text net.clients (get_or journal i entry) last) =
    subst (λ z. GoesOn c.loop-entry.text c.compare_entry.new.text (entry_text net.clients z last)) c.entry-item.is
    (rw (clients-are, c.as_slice.ensures) at c.in_ok-compare_entry.ensures) in (
      told ++ last ∷ [],
      g.P.Ruled.telling.retold_more net journal c.requires.legal i entry c.loop-entry-test.true c.in_ok-turn.field-0 c.loop-entry.network c.turn.new.self told last (told ++ last ∷ [])
          again (subst (λ z. g.P.Ruled.trying.IsTurn c.in_ok-turn.field-0 z c.loop-entry.network c.turn.new.self) turn-is c.in_ok-turn.ensures.turn) c.in_ok-told.ensures refl,
      length-append told (last ∷ []) ∙ ap (λ n. n + 1) many,
      subst (GoesOn c.compare_head.new.text c.compare_entry.new.text)
          (entries_more net.clients journal i entry told last c.loop-entry-test.true many)
          (goes_then c.compare_head.new.text c.loop-entry.text c.compare_entry.new.text (entries_text net.clients (take i journal) told) (entry_text net.clients (get_or journal i entry) last) went text),
    )

pub returns : goal.returns
returns g c =
    let whole : c.loop-entry.entry-index ≡ length c.args.journal.now = omega (arith, c.loop-entry-test.false, c.loop-entry.auto.entry-index-end) in
    let (told, again, many, went) = c.loop-entry.invariant in
    let all : told ≡ g.P.Ruled.telling.told_by c.args.tables.now c.args.journal.now = g.P.Ruled.telling.retold_all c.args.tables.now c.args.journal.now c.loop-entry.entry-index c.loop-entry.network told whole again in
    goes_then c.args.text.now c.compare_head.new.text c.loop-entry.text (trace_head (length c.args.journal.now)) (entries_text c.args.tables.now.clients c.args.journal.now (g.P.Ruled.telling.told_by c.args.tables.now c.args.journal.now)) c.in_ok-compare_head.ensures
    (subst (GoesOn c.compare_head.new.text c.loop-entry.text)
    (ap (λ z. entries_text c.args.tables.now.clients z told) (ap (λ n. take n c.args.journal.now) whole ∙ take-length c.args.journal.now)
    ∙ ap (entries_text c.args.tables.now.clients c.args.journal.now) all) went)
