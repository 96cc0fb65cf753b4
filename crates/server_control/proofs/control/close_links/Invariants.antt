use Rattle.std.proofs.Common.{◌≡◌, ◌<◌, ℕ, [], length, slice_get, Some}
use Rattle.filter_text.specs.Messages.{Lists}
use Rattle.server_control.proofs.control.close_links.Given as goal

abbrev pub invariant-loop-p : goal.invariant-loop-p
invariant-loop-p l =
    record {
      items : l.filters.items ≡ l.fn.filters.items;
      interfaces : l.filters.interfaces ≡ l.fn.filters.interfaces;
      holdings : l.filters.holdings ≡ l.fn.filters.holdings;
      links : length l.filters.announced ≡ length l.fn.filters.announced;
      long : length l.filters.offered ≡ length l.fn.filters.offered;
      offered : (q : ℕ) (offered : Lists) → q < l.p → slice_get l.filters.offered q ≡ Some offered → offered ≡ [];
    }
