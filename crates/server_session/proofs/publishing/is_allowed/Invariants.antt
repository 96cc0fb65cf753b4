use Rattle.std.proofs.Common.{◌≡◌, ℕ, ◌-◌, ◌<◌, ◌≤◌, false, Some, slice_get}
use Rattle.base.specs.Sets.{Has}
use Rattle.net_model.specs.Real.{real}
use Rattle.server_session.proofs.publishing.is_allowed.Given as goal

abbrev pub invariant-loop-i : goal.invariant-loop-i
invariant-loop-i l =
    record {
      within : l.at ≤ l.row.width;
      none : (k : ℕ) (a : real.Advert) → k < l.at → Has k l.row.members → slice_get l.adverts k ≡ Some a → real.allows a l.notice ≡ false;
    }

abbrev pub decreases-loop-i : goal.decreases-loop-i
decreases-loop-i l = l.row.width - l.at
