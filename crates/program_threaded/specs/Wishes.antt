-- Defines what the words of `run` ask for.
use Rattle.program_sequential.specs.declared.words.Schedule.TheVariants.{Threads}
use Rattle.program_sequential.specs.declared.words.Shown.{Shown}
use Rattle.program_sequential.specs.declared.words.Query.{Query}
use Rattle.program_sequential.specs.declared.words.Query.TheVariants.{Run}
use Rattle.program_sequential.specs.declared.words.Wanted.{Wanted}
use Rattle.program_sequential.specs.declared.words.Wanted.TheVariants.{Document}

-- a run with threads, shown so
abbrev pub query_of : Shown → Query
query_of shown = Run Threads shown

abbrev pub with_threads : Shown → Wanted
with_threads shown = Document (query_of shown)
