-- Cases at the boundaries of 01's section 'The lease design': what the lister prints.
use mathlib.Core.Path.{◌≡◌, refl}
use mathlib.Core.List.{[], ◌∷◌, map}
use lib.ListN.{drop, replicate}
use Rattle.model.specs.Listing.{bytes_of_text, decimal, listing}
use Rattle.model.proofs.Opened.{everything}
use Rattle.model.proofs.Designs.{smallest, high_to_low, expression_kind_twelve, one_state, register_record, goes_to}

-- "a 16-bit cycle count", little-endian: 256 cycles; behind 2,208 bytes stands the last line, and nothing more
shows_line_256 : drop 2208 (listing (0 ∷ 1 ∷ smallest)) ≡ bytes_of_text "256;0 1;\n"
shows_line_256 = unfold everything in refl

-- "cycle from 1": behind line 9 comes line 10
shows_line_10
    : listing (10 ∷ 0 ∷ smallest)
    ≡ bytes_of_text "cycle;walk;registers\n1;0 1;\n2;0 1;\n3;0 1;\n4;0 1;\n5;0 1;\n6;0 1;\n7;0 1;\n8;0 1;\n9;0 1;\n10;0 1;\n"
shows_line_10 = unfold everything in refl

-- "It runs from reset": a port shows its reset value
shows_listing_from_reset
    : listing (1 ∷ 0 ∷ one_state (1 ∷ []) (register_record 0 1 4275878552 ∷ register_record 0 0 70 ∷ []) 1 (goes_to 1 ∷ []) [])
    ≡ bytes_of_text "cycle;walk;registers\n1;0 1;4275878552 70\n"
shows_listing_from_reset = unfold everything in refl

-- "A refused image gives one line instead", with a count of 0 too, and with a place of four digits
shows_refused_count_0 : listing (0 ∷ 0 ∷ high_to_low) ≡ bytes_of_text "refused;10;1\n"
shows_refused_count_0 = unfold everything in refl

shows_refused_expression : listing (1 ∷ 0 ∷ expression_kind_twelve) ≡ bytes_of_text "refused;5;1025\n"
shows_refused_expression = unfold everything in refl

-- "input under two bytes gives "refused;1;0"", and input of two bytes has an empty image
shows_input_of_2 : map listing ([] ∷ (1 ∷ []) ∷ (1 ∷ 0 ∷ []) ∷ []) ≡ replicate 3 (bytes_of_text "refused;1;0\n")
shows_input_of_2 = unfold everything in refl

-- 02, E5: "Every listing stays byte for byte as it was, for numbers up to 4,294,967,295": each power of ten and the number below it
shows_decimals_at_powers
    : map decimal (0 ∷ 1 ∷ 9 ∷ 10 ∷ 99 ∷ 100 ∷ 999 ∷ 1000 ∷ 9999 ∷ 10000 ∷ 99999 ∷ 100000 ∷ 999999 ∷ 1000000 ∷ 9999999 ∷ 10000000 ∷ 99999999 ∷ 100000000 ∷ 999999999 ∷ 1000000000 ∷ 4294967295 ∷ [])
    ≡ bytes_of_text "0"
    ∷ bytes_of_text "1"
    ∷ bytes_of_text "9"
    ∷ bytes_of_text "10"
    ∷ bytes_of_text "99"
    ∷ bytes_of_text "100"
    ∷ bytes_of_text "999"
    ∷ bytes_of_text "1000"
    ∷ bytes_of_text "9999"
    ∷ bytes_of_text "10000"
    ∷ bytes_of_text "99999"
    ∷ bytes_of_text "100000"
    ∷ bytes_of_text "999999"
    ∷ bytes_of_text "1000000"
    ∷ bytes_of_text "9999999"
    ∷ bytes_of_text "10000000"
    ∷ bytes_of_text "99999999"
    ∷ bytes_of_text "100000000"
    ∷ bytes_of_text "999999999"
    ∷ bytes_of_text "1000000000"
    ∷ bytes_of_text "4294967295"
    ∷ []
shows_decimals_at_powers = unfold everything in refl

-- "Decimal printing": either side of a power of ten, and zeros inside a number
shows_decimals
    : map decimal (9 ∷ 11 ∷ 99 ∷ 100 ∷ 1002 ∷ 999999999 ∷ 1000000000 ∷ [])
    ≡ bytes_of_text "9" ∷ bytes_of_text "11" ∷ bytes_of_text "99" ∷ bytes_of_text "100" ∷ bytes_of_text "1002" ∷ bytes_of_text "999999999" ∷ bytes_of_text "1000000000" ∷ []
shows_decimals = unfold everything in refl
