-- The entries in an object's builder, and the bytes that it builds from them.
use Rattle.std.specs.Prelude.{ℕ, ◌<◌, ◌^◌, List, ◌++◌, length, flat_map, string_bytes}
use Rattle.std.specs.Map.{keys_of, values_of}
use Rattle.std.specs.declared.alloc.Global.{Global}
use Rattle.std.specs.declared.string.String.{String}
use Rattle.jsonb_doc.specs.Format.{header, object_header, entry_word, key_words, key_bytes}
use Rattle.jsonb_doc.specs.Kinds.{kind_number}
use Rattle.jsonb_doc.specs.Encoding.{EntryParts}
use Rattle.jsonb_doc.specs.declared.builder_entry.BuilderEntry.{BuilderEntry}

abbrev pub entry_parts : BuilderEntry → EntryParts
entry_parts e = (kind_number e.kind, e.content.items)

-- the entry is within the limits of the format
abbrev pub FitsEntry : EntryParts → Type 0
FitsEntry e = (e.0 < 8) × (length e.1 < 2 ^ 28)

-- the pair of an entry of a map
abbrev pub member : String Global × BuilderEntry → List ℕ × EntryParts
member e = (string_bytes e.0, entry_parts e.1)

-- the key and the entry are within the limits of the format
abbrev pub FitsMember : String Global × BuilderEntry → Type 0
FitsMember e = (length (string_bytes e.0) < 2 ^ 28) × FitsEntry (entry_parts e.1)

-- ---- bytes

abbrev pub words_of_entries : List EntryParts → List ℕ
words_of_entries es = flat_map (λ e. entry_word e.0 (length e.1)) es

abbrev pub contents_of_entries : List EntryParts → List ℕ
contents_of_entries es = flat_map (λ e. e.1) es

-- the object of these keys with their entries
abbrev pub object_bytes : List (List ℕ × EntryParts) → List ℕ
object_bytes es =
    header object_header (length es)
    ++ ((key_words (keys_of es) ++ words_of_entries (values_of es))
    ++ (key_bytes (keys_of es) ++ contents_of_entries (values_of es)))
