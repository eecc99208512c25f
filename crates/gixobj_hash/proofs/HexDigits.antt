-- The digits of encoded hex are ASCII.
use Rattle.std.proofs.Common.{◌≡◌, ℕ, true, List, [], ◌∷◌, refl, nat_lt}
use Rattle.std.proofs.lemmas.Bool.{and_parts}
use Rattle.std.proofs.lemmas.Str.Ascii.{IsAscii-cons, IsAscii-nil}
use Rattle.std.specs.List.{list_all}
use Rattle.std.specs.Str.{IsAscii}
use Rattle.hex.specs.Hex.{lower_digits}
use borrow.Author.Tests.{ltb-true}

-- bytes that pass the test are ASCII
is_ascii_of_list_all : (content : List ℕ) → list_all (λ byte. nat_lt byte 128) content ≡ true → IsAscii content
is_ascii_of_list_all [] passes = IsAscii-nil
is_ascii_of_list_all (byte ∷ content) passes =
    let parts = and_parts (nat_lt byte 128) (list_all (λ byte. nat_lt byte 128) content) passes in
    IsAscii-cons byte content (ltb-true byte 128 parts.0) (is_ascii_of_list_all content parts.1)

pub lower_digits_are_ascii : IsAscii lower_digits
lower_digits_are_ascii = is_ascii_of_list_all lower_digits refl
