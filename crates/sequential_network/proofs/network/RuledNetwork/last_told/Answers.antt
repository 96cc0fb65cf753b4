use Rattle.std.proofs.Common.{◌≡◌, List, [], ◌∷◌, ◌++◌, length, IfOk, refl, subst}
use Rattle.net_model.specs.Parts.{EntryParts}
use Rattle.net_turns.specs.Network.{NetworkParts}
use Rattle.sequential_network.proofs.network.RuledNetwork.last_told.Goals as goal

pub last_told-requires : goal.last_told-requires
last_told-requires g c = λ k. ((refl, tt), (c.lemma_laws.ensures, (c.self.inside.phase, c.self.invariant.0)))

pub returns : goal.returns
returns g c =
    subst
    (λ (z : NetworkParts). IfOk c.last_told.result
    (λ told. (before : List EntryParts) (entry : EntryParts) → z.journal ≡ before ++ entry ∷ [] → told ≡ g.P.Ruled.telling.told_at z.net z.journal (length before) entry))
    c.self.view_is
    c.last_told.ensures
