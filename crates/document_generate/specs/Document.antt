-- Defines the document that is generated from a seed.
use Rattle.std.specs.Prelude.{ℕ, ◌+◌, ◌*◌, nat_lt, List, ◌++◌, codes, decimal, if◌then◌else◌}
use Rattle.document_generate.specs.Draws.{after}
use Rattle.document_generate.specs.Lines.{texts_drawn, edge_line, client_line, subscribe_line, publish_line}

-- how many publications client place + 1 has: 2,000 over all 64
unfoldable pub publications : ℕ → ℕ
publications place = if nat_lt place 16 then 32 else 31

-- how many draws its script takes
unfoldable pub script_draws : ℕ → ℕ
script_draws place = 20 + 6 * publications place

-- its script: four subscriptions, and in the next phase its publications
unfoldable pub script_text : ℕ → ℕ → List ℕ
script_text place state =
    codes "script c" ++ decimal (place + 1) ++ codes "\n" ++ texts_drawn (λ n. subscribe_line) (λ n. 5) 4 0 state ++ codes "barrier\n"
    ++ texts_drawn (λ n. publish_line) (λ n. 6) (publications place) 0 (after 20 state)

-- THE DOCUMENT OF A SEED: a tree of 16 servers, 64 clients, and their scripts
unfoldable pub generated : ℕ → List ℕ
generated seed =
    codes "siena 1\nsemantics subscription\nservers 16\n" ++ texts_drawn edge_line (λ n. 1) 15 0 seed
    ++ texts_drawn client_line (λ n. 0) 64 0 seed ++ texts_drawn script_text script_draws 64 0 (after 15 seed)
