-- Proves that keys that compare equal have the same bytes.
use Rattle.std.proofs.Common.{◌≡◌, List, ap, ℕ, Bool, true, refl, sym, Ordering}
use Rattle.std.specs.Prelude.{Vec}
use Rattle.std.specs.declared.alloc.Global.{Global}
use Rattle.std.specs.declared.cmp.Ordering.TheVariants.{Less, Equal, Greater}
use Rattle.std.specs.Ordering.{nat_cmp, is_eq, is_lt, is_gt, ordering_reverse}
use Rattle.std.specs.Cmp.Lexicographic.{slice_cmp}
use Rattle.std.proofs.lemmas.Map.Lookups.{exact_bytes}
use Rattle.std.proofs.lemmas.Cmp.{nat_list_cmp_total}
use Rattle.filter_constraints.specs.Bytes.{less}
use Rattle.match_index.specs.Keys.{same_bytes, at_key, key_cmp, bytes_of}
use Rattle.base.proofs.Bools.{is_eq-equal}

pub same-one : (u : List ℕ) (k : Vec ℕ Global) → at_key u k ≡ true → bytes_of k ≡ u
same-one u k h = sym (exact_bytes u k.items (is_eq-equal (slice_cmp nat_cmp u k.items) h))

pub same-same : (u : List ℕ) (a b : Vec ℕ Global) → at_key u a ≡ true → is_eq (key_cmp a b) ≡ at_key u b
same-same u a b h = ap {B = Bool} (λ q. same_bytes q b.items) (same-one u a h)

-- the order of bytes by their comparison, one way round and the other
pub less-before : (a b : List ℕ) → less a b ≡ is_lt (slice_cmp nat_cmp a b)
unfolding less
less-before a b = refl

pub less-after : (a b : List ℕ) → less a b ≡ is_gt (slice_cmp nat_cmp b a)
unfolding less
less-after a b = rw (nat_list_cmp_total.antisymm a b) (turned (slice_cmp nat_cmp b a))
  where
    turned : (o : Ordering) → is_lt (ordering_reverse o) ≡ is_gt o
    turned Less = refl
    turned Equal = refl
    turned Greater = refl
