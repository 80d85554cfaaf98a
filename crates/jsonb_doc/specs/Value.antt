-- The tree of a value.
use Rattle.std.specs.Prelude.{map, string_bytes}
use Rattle.std.specs.Cow.{cow_str_bytes}
use Rattle.jsonb_doc.specs.Number as spec
use Rattle.jsonb_doc.specs.Extension.{binary, date, timestamp, timestamp_tz, interval}
use Rattle.jsonb_doc.specs.Tree.{Tree, null, boolean, number, text, extension, array, object, trees_of, pairs_of}
use Rattle.jsonb_doc.specs.View.{number_parts, number_view}
use Rattle.jsonb_doc.specs.declared.number.Number.{Number}
use Rattle.jsonb_doc.specs.declared.value.Value.{Value, fold-Value}
use Rattle.jsonb_doc.specs.declared.value.Value.TheOpen.{Value-F}

-- The tree of one level, given the trees of its children.
abbrev pub value_layer : (Number → spec.Number) → Value-F Tree → Tree
value_layer seen Value-F.Null = null
value_layer seen (Value-F.Bool b) = boolean b
value_layer seen (Value-F.String s) = text (cow_str_bytes s)
value_layer seen (Value-F.Number n) = number (seen n)
value_layer seen (Value-F.Binary bytes) = extension (binary bytes.now)
value_layer seen (Value-F.Date d) = extension (date d.value)
value_layer seen (Value-F.Timestamp t) = extension (timestamp t.value)
value_layer seen (Value-F.TimestampTz t) = extension (timestamp_tz t.offset t.value)
value_layer seen (Value-F.Interval i) = extension (interval i.months i.days i.micros)
value_layer seen (Value-F.Array v) = array (trees_of v.items)
value_layer seen (Value-F.Object m) = object (pairs_of (map (λ e. (string_bytes e.0, e.1)) m.entries))

-- The tree of a value, with this view of each number.
abbrev pub tree_seen : (Number → spec.Number) → Value → Tree
tree_seen seen = fold-Value Tree (value_layer seen)

-- The tree of a value. Every zero is the same number.
abbrev pub value_tree : Value → Tree
value_tree = tree_seen number_view

-- The tree of a value, with the parts of each number. Zeros of other variants and scales are other numbers.
abbrev pub value_parts : Value → Tree
value_parts = tree_seen number_parts
