-- Defines lines of clients, refused publishes and publications, each ended by a newline (10).
use Rattle.std.specs.Prelude.{ℕ, List, ◌++◌, codes}
use Rattle.std.specs.Fmt.{decimal}
use Rattle.filter_text.specs.declared.id.Id.{Id}
use Rattle.net_model.specs.Parts.{ClientParts}
use Rattle.net_model.specs.Nets.{client_name}

-- `client NAME`
unfoldable pub client_line : List ℕ → List ℕ
client_line name = codes "client " ++ name ++ codes "\n"

-- `refused ORDINAL unadvertised`
unfoldable pub refused_line : ℕ → List ℕ
refused_line ordinal = codes "refused " ++ decimal ordinal ++ codes " unadvertised\n"

-- a word with its space, then PUBLISHER, ORDINAL and NOTICE
unfoldable pub publication_line : List ℕ → List ClientParts → Id → List ℕ → List ℕ
publication_line word clients id text = word ++ client_name clients id.publisher ++ codes " " ++ decimal id.ordinal ++ codes " " ++ text ++ codes "\n"
