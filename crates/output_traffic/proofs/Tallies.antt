-- One entry more of a journal that is told.
use Rattle.std.proofs.Common.{◌≡◌, ℕ, ◌+◌, Bool, List, [], ◌∷◌, ◌++◌, length, arith}
use Rattle.filter_text.specs.declared.sent.Sent.{Sent}
use Rattle.net_model.specs.Parts.{EntryParts}
use Rattle.output_traffic.specs.Carried.{carried, put_on}

pub carried-more : (test : List ℕ → Bool) (journal : List EntryParts) (outs : List (List Sent)) (entry : EntryParts) (sent : List Sent) (from to : ℕ) → length journal ≡ length outs
    → carried test (journal ++ entry ∷ []) (outs ++ sent ∷ []) from to ≡ carried test journal outs from to + put_on test entry.server sent from to
carried-more test [] [] entry sent from to e = omega arith
carried-more test [] (o ∷ outs) entry sent from to e = absurd (omega (arith, e))
carried-more test (x ∷ journal) [] entry sent from to e = absurd (omega (arith, e))
carried-more test (x ∷ journal) (o ∷ outs) entry sent from to e = omega (arith, carried-more test journal outs entry sent from to (omega (arith, e)))
