-- What follows for a server that can act, whatever its kind.
use Rattle.std.proofs.Common.{◌≡◌, ℕ, suc, ◌-◌, ◌<◌, ◌≤◌, List, [], ◌∷◌, zero, length, slice_get, slice_index_or, Some, sym, subst, ◌∙◌, arith}
use Rattle.base.specs.Sets.{Has}
use Rattle.server_message.specs.Parts.{SendingParts}
use Rattle.sequential_network.specs.Seen.{CanAct}
use Rattle.sequential_network.specs.Stepping.{Stepping, IsSome, GoesOn}
use Rattle.std.proofs.lemmas.Option.{slice_get_within}
use Rattle.base.proofs.Lists.{index-get}

module _ {P : Type 0} (kind : Stepping P) (server : ℕ) (neighbours : List ℕ) (cores : List P) (able : CanAct kind server neighbours cores) where
  pub neighbours_small : (link : ℕ) → Has link neighbours → link ≤ 64
  neighbours_small link h = able.near link h

  pub place_within : (n : ℕ) → n ≡ length cores → server - 1 < n
  place_within n e = let l = slice_get_within cores (server - 1) able.core able.here in omega (arith, l, e)

  pub core_is : (x : P) → x ≡ slice_index_or cores (server - 1) x → x ≡ able.core
  core_is x e = e ∙ index-get cores (server - 1) able.core x able.here

  pub some_server : (x : P) → x ≡ able.core → IsSome kind x
  some_server x e = subst (IsSome kind) (sym e) able.some

  -- what it sends goes to its neighbours
  pub goes_to : (x : P) → x ≡ able.core → (stamp : ℕ) (sent : List SendingParts) → GoesOn (kind.core x).control.links stamp sent → GoesOn neighbours stamp sent
  goes_to x e stamp sent on = subst (λ z. GoesOn z stamp sent) (sym able.links) (subst (λ z. GoesOn (kind.core z).control.links stamp sent) e on)
