-- Defines the sessions of a server's clients before any step.
use Rattle.std.specs.Prelude.{ℕ, suc, ◌==◌, false, cond, List, [], ◌∷◌}
use Rattle.filter_text.specs.declared.semantics.Semantics.{Semantics}
use Rattle.net_model.specs.Parts.{ClientParts}
use Rattle.server_spec.specs.Session.{SessionParts, session_parts}

-- the session of a client of this number before its first command
abbrev pub session_of : Semantics → ℕ → ClientParts → SessionParts
session_of semantics number client = session_parts number semantics client.script 0 [] 0 false

-- of clients numbered from this number on, those that live at a server
abbrev pub sessions_of : Semantics → ℕ → ℕ → List ClientParts → List SessionParts
sessions_of semantics server number [] = []
sessions_of semantics server number (client ∷ clients) =
    cond (client.home == server)
    (session_of semantics number client ∷ sessions_of semantics server (suc number) clients)
    (sessions_of semantics server (suc number) clients)
