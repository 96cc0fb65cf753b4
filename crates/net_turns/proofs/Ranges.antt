-- Lemmas on lists that a loop goes along.
use Rattle.std.proofs.Common.{◌≡◌, ℕ, suc, ◌+◌, ◌-◌, ◌<◌, ◌≤◌, List, [], ◌∷◌, length, get_or, drop, sym, ap, ◌∙◌, arith, drop-cons, add-one}
use Rattle.std.proofs.lemmas.List.FromFn.{length-range_with_len, get_or-range_with_len}
use Rattle.std.specs.List.{range_with_len}
use Rattle.base_tree.specs.Graph.{servers_to}
use Rattle.net_model.proofs.Walking.{drop-end}

-- what is left of the servers at one of them, and behind the last
pub servers-next : (count server : ℕ) → 1 ≤ server → server ≤ count → drop (server - 1) (servers_to count) ≡ server ∷ drop (server + 1 - 1) (servers_to count)
servers-next count server some most =
    let less : server - 1 < length (range_with_len 1 count) = omega (arith, length-range_with_len 1 count) in
    let here : get_or (range_with_len 1 count) (server - 1) 0 ≡ server = get_or-range_with_len 1 count (server - 1) 0 (omega arith) ∙ omega arith in
    let next : suc (server - 1) ≡ server + 1 - 1 = omega arith in
    drop-cons (range_with_len 1 count) (server - 1) 0 less ∙ (λ i. here i ∷ drop (next i) (range_with_len 1 count))

pub servers-past : (count server : ℕ) → count ≤ server → drop server (servers_to count) ≡ []
servers-past count server past = drop-end (range_with_len 1 count) server (omega (arith, length-range_with_len 1 count))

-- what a loop has left falls
pub less-left : (all now next : ℕ) → now < all → now < next → all - next < all - now
less-left all now next fewer more = omega arith
