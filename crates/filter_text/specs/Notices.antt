-- Defines which notification bytes spell.
use Rattle.std.specs.Prelude.{ℕ, List, [], Some, None, if◌then◌else◌}
use Rattle.std.specs.declared.option.Option.{Option}
use Rattle.filter_types.specs.Notice.{Attribute, is_notice}
use Rattle.filter_text.specs.Reading.{◌>>=◌, whole}
use Rattle.filter_text.specs.Values.{attribute_at}
use Rattle.filter_text.specs.Items.{items_at}

-- attributes that are a notice
abbrev pub listed : List Attribute → Option (List Attribute)
listed n = if is_notice n then Some n else None

-- the notice that the bytes spell
unfoldable pub notice_of : List ℕ → Option (List Attribute)
notice_of bytes = whole (items_at attribute_at 64 [] bytes) >>= listed
