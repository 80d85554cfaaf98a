-- Rows that show the definitions of the format at work. The bytes are those of the format's description.
use Rattle.jsonb_doc.proofs.Common.{◌≡◌, ℕ, ◌+◌, ◌*◌, ◌-◌, true, false, List, [], ◌∷◌, ◌++◌, map, refl, Some, None, ℤ, pos, negsuc, not, ◌==◌, codes, if◌then◌else◌, nat_lt, filter, int64, uint64, decimal64, decimal128, zero_number, binary, date, timestamp, timestamp_tz, interval, Tree, null, boolean, number, text, extension, array, object, trees_of, pairs_of, canonical, number_reader, number_of, extension_of, is_unsupported, document, deepest}
use Rattle.jsonb_doc.specs.Number.{Number}
use Rattle.jsonb_doc.proofs.Tables.{AreRows}

-- ---- bytes in hexadecimal, which spaces may divide

abbrev digit : ℕ → ℕ
digit c = if nat_lt c 58 then c - 48 else c - 87

abbrev digit_pairs : List ℕ → List ℕ
digit_pairs [] = []
digit_pairs (a ∷ []) = []
digit_pairs (a ∷ b ∷ rest) = (16 * digit a + digit b) ∷ digit_pairs rest

abbrev hex : List ℕ → List ℕ
hex digits = digit_pairs (filter (λ c. not (c == 32)) digits)

-- ---- numbers and trees

abbrev whole : ℕ → Number
whole n = record { variant = uint64; whole = pos n; scale = 0 }

abbrev below_zero : ℕ → Number
below_zero n = record { variant = int64; whole = negsuc (n - 1); scale = 0 }

abbrev decimal : ℤ → ℕ → Number
decimal z scale = record { variant = decimal64; whole = z; scale = scale }

abbrev wide : ℤ → ℕ → Number
wide z scale = record { variant = decimal128; whole = z; scale = scale }

abbrev natural : ℕ → Tree
natural n = number (whole n)

abbrev list : List Tree → Tree
list ts = array (trees_of ts)

abbrev fields : List (List ℕ × Tree) → Tree
fields ps = object (pairs_of ps)

-- {"number":..,"type":..}
abbrev phone : ℕ → List ℕ → Tree
phone n kind = fields ((codes "number", natural n) ∷ (codes "type", text kind) ∷ [])

-- ---- tables

-- each tree has the document with these digits
abbrev AreDocuments : List (Tree × List ℕ) → Type 0
AreDocuments rows = map (λ row. document row.0) rows ≡ map (λ row. hex row.1) rows

-- ---- canonical documents

documents : AreDocuments (
    -- null
    (null, codes "20000000 00000000")
    -- true
    ∷ (boolean true, codes "20000000 40000000")
    -- -100
    ∷ (number (below_zero 100), codes "20000000 20000002 409c")
    -- 12.34
    ∷ (number (decimal (pos 1234) 2), codes "20000000 2000000a 7000000000000004d202")
    -- 0
    ∷ (number zero_number, codes "20000000 20000001 00")
    -- the date 1
    ∷ (extension (date (pos 1)), codes "20000000 60000005 1000000001")
    -- []
    ∷ (list [], codes "80000000")
    -- [1]
    ∷ (list (natural 1 ∷ []), codes "80000001 20000002 5001")
    -- [10,20,30]
    ∷ (list (natural 10 ∷ natural 20 ∷ natural 30 ∷ []), codes "80000003 20000002 20000002 20000002 500a 5014 501e")
    -- [1,"a"]
    ∷ (list (natural 1 ∷ text (codes "a") ∷ []), codes "80000002 20000002 10000001 5001 61")
    -- ["a",1]
    ∷ (list (text (codes "a") ∷ natural 1 ∷ []), codes "80000002 10000001 20000002 61 5001")
    -- [false,true]
    ∷ (list (boolean false ∷ boolean true ∷ []), codes "80000002 30000000 40000000")
    -- [255,256,65536,4294967296]
    ∷ (
      list (natural 255 ∷ natural 256 ∷ natural 65536 ∷ natural 4294967296 ∷ []),
      codes "80000004 20000002 20000003 20000005 20000009 50ff 500100 5000010000 500000000100000000",
    )
    -- [-128,-129,-32769]
    ∷ (
      list (number (below_zero 128) ∷ number (below_zero 129) ∷ number (below_zero 32769) ∷ []),
      codes "80000003 20000002 20000003 20000005 4080 40ff7f 40ffff7fff",
    )
    -- {}
    ∷ (fields [], codes "40000000")
    -- {"asd":"adf"}
    ∷ (fields ((codes "asd", text (codes "adf")) ∷ []), codes "40000001 10000003 10000003 617364 616466")
    -- [[1]]
    ∷ (list (list (natural 1 ∷ []) ∷ []), codes "80000001 5000000a 80000001 20000002 5001")
    -- [false, 10, {"k":"v"}]
    ∷ (
      list (boolean false ∷ natural 10 ∷ fields ((codes "k", text (codes "v")) ∷ []) ∷ []),
      codes "80000003 30000000 20000002 5000000e 500a 40000001 10000001 10000001 6b 76",
    )
    -- [1,-2]
    ∷ (list (natural 1 ∷ number (below_zero 2) ∷ []), codes "80000002 20000002 20000002 5001 40fe")
    -- [18446744073709551615]
    ∷ (list (natural 18446744073709551615 ∷ []), codes "80000001 20000009 50ffffffffffffffff")
    -- [1,1,2,1.0]
    ∷ (
      list (natural 1 ∷ natural 1 ∷ natural 2 ∷ number (decimal (pos 10) 1) ∷ []),
      codes "80000004 20000002 20000002 20000002 2000000a 5001 5001 5002 70000000000000000a01",
    )
    -- {"a":null,"b":[null]}
    ∷ (fields ((codes "a", null) ∷ (codes "b", list (null ∷ [])) ∷ []), codes "40000002 10000001 10000001 00000000 50000008 61 62 80000001 00000000")
    -- {"number":3720453,"type":"home"}
    ∷ (phone 3720453 (codes "home"), codes "40000002 10000006 10000004 20000005 10000004 6e756d626572 74797065 500038c505 686f6d65")
    -- {"name":"Fred","phones":[{"number":3720453,"type":"home"},{"number":5062051,"type":"work"}]}
    ∷ (
      fields ((codes "name", text (codes "Fred")) ∷ (codes "phones", list (phone 3720453 (codes "home") ∷ phone 5062051 (codes "work") ∷ [])) ∷ []),
      codes "40000002 10000004 10000006 10000004 5000005a 6e616d65 70686f6e6573 46726564 80000002 50000027 50000027"
          ++ codes "40000002 10000006 10000004 20000005 10000004 6e756d626572 74797065 500038c505 686f6d65"
          ++ codes "40000002 10000006 10000004 20000005 10000004 6e756d626572 74797065 50004d3da3 776f726b",
    )
    -- the greatest decimal of 128 bits, at scale 38
    ∷ (number (wide (pos 170141183460469231731687303715884105727) 38), codes "20000000 20000012 70 7fffffffffffffffffffffffffffffff 26")
    ∷ [])
documents = refl

-- ---- numbers

numbers : AreRows (λ digits. number_of (hex digits)) (
    -- no payload, and zeros
    (codes "", None)
    ∷ (codes "00", Some zero_number)
    ∷ (codes "0000", None)
    -- signed, in 1, 2, 4 and 8 bytes
    ∷ (codes "409c", Some (below_zero 100))
    ∷ (codes "40ff9c", Some (below_zero 100))
    ∷ (codes "40ffffff9c", Some (below_zero 100))
    ∷ (codes "40ffffffffffffff9c", Some (below_zero 100))
    ∷ (codes "408000000000000000", Some (below_zero 9223372036854775808))
    ∷ (codes "407fffffffffffffff", Some (record { variant = int64; whole = pos 9223372036854775807; scale = 0 }))
    -- signed, in no width
    ∷ (codes "40", None)
    ∷ (codes "40ffff9c", None)
    ∷ (codes "40ffffffffffffffff9c", None)
    -- a longer zero
    ∷ (codes "400000", Some zero_number)
    -- unsigned, in 1, 2, 4 and 8 bytes
    ∷ (codes "50ff", Some (whole 255))
    ∷ (codes "50ff00", Some (whole 65280))
    ∷ (codes "5000000005", Some (whole 5))
    ∷ (codes "50ffffffffffffffff", Some (whole 18446744073709551615))
    -- unsigned, in no width
    ∷ (codes "50", None)
    ∷ (codes "500000000005", None)
    -- a longer zero
    ∷ (codes "5000", Some zero_number)
    -- decimals
    ∷ (codes "7000000000000004d202", Some (decimal (pos 1234) 2))
    ∷ (codes "70fffffffffffffffbff", Some (decimal (negsuc 4) 255))
    ∷ (codes "70000000000000000002", Some zero_number)
    ∷ (codes "7000000000000000000000000000000001ff", Some (wide (pos 1) 255))
    ∷ (codes "70ffffffffffffffffffffffffffffffff00", Some (wide (negsuc 0) 0))
    -- no number
    ∷ (codes "70000000000000000a", None)
    ∷ (codes "700000000000000000000a", None)
    ∷ (codes "80", None)
    -- floats
    ∷ (codes "10", None)
    ∷ (codes "20", None)
    ∷ (codes "30", None)
    ∷ (codes "603ff8000000000000", None)
    ∷ [])
unfolding number_of
numbers = refl

-- ---- unsupported numbers

unsupported : AreRows (λ digits. is_unsupported (hex digits)) (
    -- floats, then decimals of 256 bits
    (codes "603ff8000000000000", true)
    ∷ (codes "10", true)
    ∷ (codes "2000", true)
    ∷ (codes "30000000", true)
    ∷ (codes "70000000000000000000000000000000000000000000000000000000000000000000", true)
    ∷ (codes "700000000000000000000000000000000000000000000000000000000000000000", false)
    -- a number, and what is none
    ∷ (codes "7000000000000004d202", false)
    ∷ (codes "40", false)
    ∷ (codes "", false)
    ∷ [])
unfolding is_unsupported
unsupported = refl

-- ---- canonical numbers: the shortest width, and zero in one byte

canonical_numbers : AreRows (λ digits. number_reader canonical (hex digits)) (
    -- signed
    (codes "409c", Some (below_zero 100))
    ∷ (codes "40ff9c", None)
    ∷ (codes "4080", Some (below_zero 128))
    ∷ (codes "40ff7f", Some (below_zero 129))
    -- unsigned
    ∷ (codes "5005", Some (whole 5))
    ∷ (codes "5000000005", None)
    -- zeros
    ∷ (codes "00", Some zero_number)
    ∷ (codes "5000", None)
    ∷ (codes "70000000000000000002", None)
    -- a decimal
    ∷ (codes "7000000000000004d202", Some (decimal (pos 1234) 2))
    ∷ [])
unfolding number_of
canonical_numbers = refl

-- ---- extension values

extensions : AreRows (λ digits. extension_of (hex digits)) (
    -- no payload
    (codes "", None)
    -- binary
    ∷ (codes "00", Some (binary []))
    ∷ (codes "00ff7f", Some (binary (0xff ∷ 0x7f ∷ [])))
    -- dates
    ∷ (codes "1000000001", Some (date (pos 1)))
    ∷ (codes "10ffffffff", Some (date (negsuc 0)))
    ∷ (codes "10000001", None)
    -- timestamps
    ∷ (codes "20000000000000000a", Some (timestamp (pos 10)))
    ∷ (codes "2000000001", None)
    -- timestamps with an offset
    ∷ (codes "30fffffffe000000000000000a", Some (timestamp_tz (negsuc 1) (pos 10)))
    ∷ (codes "30fffffffe000000000000000a00", None)
    -- intervals
    ∷ (codes "4000000001000000020000000000000003", Some (interval (pos 1) (pos 2) (pos 3)))
    ∷ (codes "40000000010000000200000003", None)
    -- another tag
    ∷ (codes "50", None)
    ∷ [])
unfolding extension_of
extensions = refl

-- ---- depths

depths : AreRows deepest (
    (natural 1, 0)
    -- {}
    ∷ (fields [], 0)
    -- [1]
    ∷ (list (natural 1 ∷ []), 1)
    -- {"a":[]}
    ∷ (fields ((codes "a", list []) ∷ []), 1)
    -- [[{"a":null}],[],1]
    ∷ (list (list (fields ((codes "a", null) ∷ []) ∷ []) ∷ list [] ∷ natural 1 ∷ []), 3)
    ∷ [])
depths = refl
