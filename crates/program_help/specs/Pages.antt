-- Defines the texts of help and version, and the line on words that the program doesn't know.
use Rattle.std.specs.Prelude.{ℕ, List, ◌++◌, codes}
use Rattle.program_help.specs.declared.page.Page.{Page}
use Rattle.program_help.specs.declared.page.Page.TheVariants.{Help, Version}

-- what each word does, with an example
unfoldable pub help_text : List ℕ
help_text =
    codes "siena: a network of event servers in one process. Most words read a document of servers, clients and their scripts from\n"
    ++ codes "standard input, and write what happens to standard output; docs/FORMATS.md has all texts, examples/ has documents.\n"
    ++ codes "\n"
    ++ codes "walk [--sorted] [--trace]\n"
    ++ codes "    what each client receives where the servers take turns by a fixed schedule; sorted by publisher and number in place of\n"
    ++ codes "    the order received; with a trace of what the servers did\n"
    ++ codes "        siena walk < examples/alarm.siena\n"
    ++ codes "run [--sorted] [--trace]\n"
    ++ codes "    the same where each server has two workers, whose turns come as they may\n"
    ++ codes "        siena run --sorted < examples/market.siena\n"
    ++ codes "replay [--sorted] [--trace]\n"
    ++ codes "    the same where the turns of the document's schedule come first\n"
    ++ codes "        siena replay --sorted < examples/monitoring.siena\n"
    ++ codes "hier [--sorted] [--trace]\n"
    ++ codes "    the same where server 1 is the top of a hierarchy: notifications always go up to it, and down by filters\n"
    ++ codes "        siena hier --trace < examples/alarm.siena\n"
    ++ codes "flood\n"
    ++ codes "    what plain flooding owes each client, and what it allows besides, by the scripts alone\n"
    ++ codes "        siena flood < examples/market.siena\n"
    ++ codes "traffic [--dot]\n"
    ++ codes "    what each link carries in the walk, beside what plain flooding would put there; as a graph for dot\n"
    ++ codes "        siena traffic < examples/alarm.siena\n"
    ++ codes "patterns\n"
    ++ codes "    where the patterns behind a line `patterns` occur in what the clients receive\n"
    ++ codes "        siena patterns < examples/alarm.patterns\n"
    ++ codes "explain CLIENT\n"
    ++ codes "    each publication that the client is owed, that may come to it, or that is near: a filter of it matches, but not in time\n"
    ++ codes "        siena explain brigade < examples/alarm.siena\n"
    ++ codes "explain CLIENT PUBLISHER NUMBER\n"
    ++ codes "    why the client gets that publication, may get it or never gets it: one fact a line, and whether the walk delivers it\n"
    ++ codes "        siena explain brigade attic 2 < examples/alarm.siena\n"
    ++ codes "audit [--hier]\n"
    ++ codes "    whether the output behind a document and a line `output` is that of a whole run, with its trace; of its hierarchy\n"
    ++ codes "        (cat D; echo output; siena run --trace < D) | siena audit\n"
    ++ codes "check\n"
    ++ codes "    how much the document has\n"
    ++ codes "        siena check < examples/market.siena\n"
    ++ codes "format\n"
    ++ codes "    the document in its canonical form\n"
    ++ codes "        siena format < examples/alarm.siena\n"
    ++ codes "gen --seed N [--summary]\n"
    ++ codes "    a document of 16 servers and 64 clients made from the number N, or how much its walk does\n"
    ++ codes "        siena gen --seed 1 | siena walk --sorted\n"
    ++ codes "help, version\n"
    ++ codes "    this text; the program's version and that of the toolchain that proves it\n"
    ++ codes "        siena help\n"
    ++ codes "\n"
    ++ codes "Status: 0 all is read and written; 2 other words; 3 the document is refused; 4 reading failed; 5 writing failed; 6 out of\n"
    ++ codes "memory; 8 patterns are refused; 9 an output is refuted; 10 what is to be explained isn't there. Standard error tells why.\n"

-- the version of the program, and the line of the toolchain that proves it
unfoldable pub version_text : List ℕ
version_text = codes "siena 1.0\n" ++ codes "rattle-kit-13f logic dac8208d650f15bf\n"

-- what is written where a page is asked for
abbrev pub page_text : Page → List ℕ
page_text Help = help_text
page_text Version = version_text

-- the line that names the words, for whoever gives others
unfoldable pub usage_text : List ℕ
usage_text =
    codes "siena: usage: walk, run, replay or hier [--sorted] [--trace]; flood; traffic [--dot]; patterns; "
    ++ codes "explain CLIENT [PUBLISHER NUMBER]; audit [--hier]; check; format; gen --seed N [--summary]; help; version\n"
