-- Tests over lists with the same members, and joined lists that rise.
use Rattle.std.proofs.Common.{◌≡◌, Bool, true, false, not, ◌||◌, List, refl}
use Rattle.base.specs.Sets.{Has}
use Rattle.law_routing.specs.Clients.{some_pass}
use Rattle.law_routing.proofs.Listing.{pass-by, by-pass}
use Rattle.output_flood.proofs.Moments.{Same}
use Rattle.std.specs.Cmp.{both_ways}

pub same_pass : {T : Type 0} (test : T → Bool) (xs ys : List T) → Same xs ys → some_pass test xs ≡ some_pass test ys
same_pass {T} test xs ys same = both_ways (some_pass test xs) (some_pass test ys) (to xs ys (λ x. (same x).0)) (to ys xs (λ x. (same x).1))
  where
    to : (xs ys : List T) → ((x : T) → Has x xs → Has x ys) → some_pass test xs ≡ true → some_pass test ys ≡ true
    to xs ys sub e = let r = by-pass test xs e in pass-by test r.0 ys (sub r.0 r.1) r.2

pub must_pass : (a b : Bool) → a ≡ true → not a || b ≡ true → b ≡ true
must_pass true b p e = e
must_pass false b p e = absurd cc

pub may_pass : (a b : Bool) → (a ≡ true → b ≡ true) → not a || b ≡ true
may_pass true b f = f refl
may_pass false b f = refl
