-- What is reported of a file. This project's own.
use Rattle.std.specs.Prelude.{◌≡◌, ℕ, List, Result, Ok, Err}
use Rattle.pcap_file.specs.declared.fault.PcapFault.{PcapFault}
use Rattle.pcap_file.specs.declared.fault.ReadError.{ReadError}
use Rattle.pcap_file.specs.declared.fault.ReadError.TheVariants.{Fault, NoMemory}

-- The packets or the fault of a file; allocation failure says nothing.
abbrev pub IsRead : Result (List (List ℕ)) PcapFault → Result (List (List ℕ)) ReadError → Type 0
IsRead said (Ok packets) = said ≡ Ok packets
IsRead said (Err (Fault fault)) = said ≡ Err fault
IsRead said (Err NoMemory) = Unit {0}
