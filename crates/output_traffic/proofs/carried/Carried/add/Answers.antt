use Rattle.std.proofs.Common.{◌≡◌, ℕ, Bool, List, [], ◌∷◌, ◌++◌, length, Result, Ok, Err, ap, arith}
use Rattle.std.specs.Result.{OnOk}
use Rattle.std.proofs.lemmas.Result.{on_ok_weaker}
use Rattle.filter_text.specs.declared.sent.Sent.{Sent}
use Rattle.net_model.specs.Parts.{EntryParts}
use Rattle.output_traffic.specs.Carried.{carried, is_change, is_notice, put_on}
use Rattle.output_traffic.specs.Counts.{AreCounts, IsRaised}
use Rattle.output_traffic.proofs.Tallies.{carried-more}
use Rattle.output_traffic.proofs.carried.Carried.add.Goals as goal

-- counts with what a step puts
abbrev More : (List ℕ → Bool) → List ℕ → List ℕ → ℕ → List Sent → Type 0
More test old new server sent = (a b : ℕ) → IsRaised old new a b (put_on test server sent a b)

-- counts of a journal with one entry more
counts-more : (test : List ℕ → Bool) (journal : List EntryParts) (outs : List (List Sent)) (entry : EntryParts) (sent : List Sent) (server : ℕ) (old new : List ℕ)
    → length journal ≡ length outs → server ≡ entry.server → More test old new server sent → AreCounts old (carried test journal outs)
    → AreCounts new (carried test (journal ++ entry ∷ []) (outs ++ sent ∷ []))
counts-more test journal outs entry sent server old new long same more counted from to lf lt small =
    let all = carried-more test journal outs entry sent from to long in
    let here = ap (λ s. put_on test s sent from to) same in
    let before = counted from to lf lt (omega (arith, small, all)) in
    omega (arith, all, here, before, more from to lf lt (omega (arith, small, all, here, before)))

both : {T E : Type 0} (P Q : Type 0) (r : Result T E) → OnOk r P → OnOk r Q → OnOk r (P × Q)
both P Q (Ok x) p q = (p, q)
both P Q (Err e) p q = tt

pub returns : goal.returns
returns c =
    let server = ap (λ z. z.server) c.entry.view_is in
    let old = c.args.self.now in
    let new = c.add_messages.new.self in
    let sent = c.args.sent.now in
    on_ok_weaker c.add_messages.result
    (λ more journal outs long counted. record {
      notices = counts-more is_notice journal outs c.args.entry.now sent c.entry.inside.server old.notices new.notices long server more.0 counted.notices;
      changes = counts-more is_change journal outs c.args.entry.now sent c.entry.inside.server old.changes new.changes long server more.1 counted.changes;
    })
    (both (More is_notice old.notices new.notices c.entry.inside.server sent) (More is_change old.changes new.changes c.entry.inside.server sent) c.add_messages.result c.add_messages.ensures.notices c.add_messages.ensures.changes)
