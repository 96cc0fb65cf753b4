use Rattle.std.proofs.Common.{◌≡◌, ◌-◌, ◌++◌, ◌∷◌, [], List, length, map, slice_get, Some, sym, ap, ◌∙◌}
use Rattle.std.proofs.lemmas.Result.{IfOk-weaker}
use Rattle.server_message.specs.Parts.{SendingParts}
use Rattle.net_model.specs.Parts.{EntryParts}
use Rattle.sequential_network.specs.Last.{LieLast, text_of_sending}
use Rattle.sequential_network.specs.Links.{messages_at}
use Rattle.sequential_network.specs.Seen.{seen}
use Rattle.sequential_network.proofs.ByLaws.{small_last, told_last}
use Rattle.sequential_network.proofs.telling.last_told.Goals as goal

pub last_on-requires : goal.last_on-requires
last_on-requires g c =
    let here : slice_get c.args.servers.now.journal.entries (length c.args.servers.now.journal.entries - 1) ≡ Some c.in-Some.entry.now =
    c.in-Some.ensures.some in
    let (phase, kept) = c.requires.kept in
    record {
      small = small_last g.P.Server.stepping g.P.Ruled.trying g.P.Ruled.telling g.P.Ruled.ruling c.requires.laws c.args.tables.now phase (seen c.args.servers.now) kept c.in-Some.entry.now
          c.entry.inside.server c.deref.result.now here (sym (ap (λ z. z.server) c.entry.view_is)) (sym (ap (λ z. z.outs) c.entry.view_is) ∙ sym c.deref.ensures.value);
      run = λ to. (c.requires.laws.stands c.args.tables.now phase (seen c.args.servers.now) kept).waiting c.entry.inside.server to;
    }

pub returns-in-Some : goal.returns-in-Some
returns-in-Some g c =
    let here : slice_get c.args.servers.now.journal.entries (length c.args.servers.now.journal.entries - 1) ≡ Some c.in-Some.entry.now =
    c.in-Some.ensures.some in
    let (phase, kept) = c.requires.kept in
    IfOk-weaker c.last_on.result
    (λ told. (sent : List SendingParts) → LieLast (messages_at c.args.servers.now.links) c.entry.inside.server c.deref.result.now sent → told ≡ map text_of_sending sent)
    (λ told. (before : List EntryParts) (entry : EntryParts) → c.args.servers.now.journal.entries ≡ before ++ entry ∷ []
    → told ≡ g.P.Ruled.telling.told_at c.args.tables.now c.args.servers.now.journal.entries (length before) entry)
    (λ told so. told_last g.P.Server.stepping g.P.Ruled.trying g.P.Ruled.telling g.P.Ruled.ruling c.requires.laws c.args.tables.now phase (seen c.args.servers.now) kept c.in-Some.entry.now
    c.entry.inside.server c.deref.result.now here (sym (ap (λ z. z.server) c.entry.view_is)) (sym (ap (λ z. z.outs) c.entry.view_is) ∙ sym c.deref.ensures.value) told so)
    c.last_on.ensures
