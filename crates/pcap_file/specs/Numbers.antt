-- Numbers as bytes, in the pcap format.
use Rattle.std.specs.Prelude.{ℕ, List, [], ◌∷◌, ◌+◌, ◌*◌, ◌/◌, ◌%◌, slice_index}
use Rattle.pcap_file.specs.declared.order.ByteOrder.{ByteOrder}
use Rattle.pcap_file.specs.declared.order.ByteOrder.TheVariants.{Little, Big}

-- The low four bytes of a number, the lowest first.
abbrev pub four_bytes : ℕ → List ℕ
four_bytes n = n % 256 ∷ n / 256 % 256 ∷ n / 65536 % 256 ∷ n / 16777216 % 256 ∷ []

-- The number that four bytes are from a place on.
abbrev pub number_at : ByteOrder → ℕ → List ℕ → ℕ
number_at Little place bytes =
    slice_index bytes place + 256 * slice_index bytes (place + 1) + 65536 * slice_index bytes (place + 2) + 16777216 * slice_index bytes (place + 3)
number_at Big place bytes =
    16777216 * slice_index bytes place + 65536 * slice_index bytes (place + 1) + 256 * slice_index bytes (place + 2) + slice_index bytes (place + 3)
