-- The ids of a net's publications are in their range.
use Rattle.std.proofs.Common.{◌≡◌, ℕ, suc, ◌+◌, ◌≤◌, ◌<◌, List, [], ◌∷◌, ◌++◌, length, inl, inr, ap, ◌⊎◌, length-append, arith}
use Rattle.std.proofs.lemmas.Option.{slice_get-get_or}
use Rattle.base.specs.Sets.{Has}
use Rattle.filter_text.specs.MessageText.{IsId}
use Rattle.filter_text.specs.declared.command.Command.{Command}
use Rattle.filter_text.specs.declared.command.Command.TheVariants.{Subscribe, Unsubscribe, Advertise, Unadvertise, Publish}
use Rattle.net_model.specs.Parts.{ClientParts, NetParts}
use Rattle.net_model.specs.Sound.{IsSound}
use Rattle.net_tables.specs.Known.{PublicationParts, publication, script_publications, known_publications}
use Rattle.net_tables.specs.Found.{publication_at}
use Rattle.base.proofs.Sets.{has-append, get-has}

-- of a client, with ordinals from one number up to another
record IsWithin (client from to : ℕ) (p : PublicationParts) : Type 0 where
  publisher : p.id.publisher ≡ client
  above : from < p.id.ordinal
  below : p.id.ordinal ≤ to

in-script : (client count : ℕ) (steps : List (ℕ × Command)) (p : PublicationParts) → Has p (script_publications client count steps)
    → IsWithin client count (count + length (script_publications client count steps)) p
in-script client count [] p h = absurd h
in-script client count ((phase, Subscribe f) ∷ steps) p h = in-script client count steps p h
in-script client count ((phase, Unsubscribe f) ∷ steps) p h = in-script client count steps p h
in-script client count ((phase, Advertise a) ∷ steps) p h = in-script client count steps p h
in-script client count ((phase, Unadvertise a) ∷ steps) p h = in-script client count steps p h
in-script client count ((phase, Publish n) ∷ steps) p (inl e) = record {
  publisher = ap (λ (z : PublicationParts). z.id.publisher) e;
  above = let o = ap (λ (z : PublicationParts). z.id.ordinal) e in omega (arith, o);
  below = let o = ap (λ (z : PublicationParts). z.id.ordinal) e in let l = length (script_publications client (suc count) steps) in omega (arith, o);
}
in-script client count ((phase, Publish n) ∷ steps) p (inr h) =
    let r = in-script client (suc count) steps p h in
    let a = r.above in let b = r.below in
    record { publisher = r.publisher; above = omega (arith, a); below = omega (arith, b) }

-- of clients from a number on
record IsAmongAll (number : ℕ) (clients : List ClientParts) (p : PublicationParts) : Type 0 where
  low : number ≤ p.id.publisher
  high : p.id.publisher < number + length clients
  counted : 1 ≤ p.id.ordinal
  few : p.id.ordinal ≤ length (known_publications number clients)

among-all : (number : ℕ) (clients : List ClientParts) (p : PublicationParts) → Has p (known_publications number clients) → IsAmongAll number clients p
among-all number [] p h = absurd h
among-all number (client ∷ clients) p h = go (among-all (suc number) clients p) (has-append p (script_publications number 0 client.script) (known_publications (suc number) clients) h)
  where
    sum : length (script_publications number 0 client.script ++ known_publications (suc number) clients) ≡ length (script_publications number 0 client.script) + length (known_publications (suc number) clients)
    sum = length-append (script_publications number 0 client.script) (known_publications (suc number) clients)

    go : (Has p (known_publications (suc number) clients) → IsAmongAll (suc number) clients p) → Has p (script_publications number 0 client.script) ⊎ Has p (known_publications (suc number) clients) → IsAmongAll number (client ∷ clients) p
    go ih (inl a) =
        let r = in-script number 0 client.script p a in
        let e = r.publisher in let u = r.above in let d = r.below in
        record { low = omega (arith, e); high = omega (arith, e); counted = omega (arith, u); few = omega (arith, d, sum) }
    go ih (inr b) =
        let r = ih b in
        let l = r.low in let k = r.high in let f = r.few in
        record { low = omega (arith, l); high = omega (arith, k); counted = r.counted; few = omega (arith, f, sum) }

pub id-known : (net : NetParts) → IsSound net → length (known_publications 1 net.clients) ≤ 100000 → (number : ℕ) → number < length (known_publications 1 net.clients)
    → IsId (publication_at net number).id
id-known net sound few number within =
    let at = slice_get-get_or (known_publications 1 net.clients) number (publication 0 0 0 []) within in
    let r = among-all 1 net.clients (publication_at net number) (get-has (known_publications 1 net.clients) number (publication_at net number) at) in
    let l = r.low in let k = r.high in let c = r.counted in let f = r.few in let clients = sound.few in
    ((omega (arith, l), omega (arith, k, clients)), (c, omega (arith, f, few)))
