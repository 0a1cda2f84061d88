use Rattle.lives_laws.proofs.TextLives.{lives_are_apart, lives_hold}
use Rattle.script_laws.proofs.AtPackets.{at_packets}
use Rattle.script_laws.proofs.RefusedRight.{refuses}
use Rattle.script_laws.proofs.WorldsRight.{agrees, completes, delivers, matches, seals_once, shows_alike}
use Rattle.spdm_command.proofs.GeneratedHolds.{generated_holds}
use Rattle.spdm_command.proofs.run.spdm.Goals as goal

pub returns-in_default-clause-agreement : goal.returns-in_default-clause-agreement
returns-in_default-clause-agreement g c = λ text held. (agrees text, shows_alike text)

pub returns-in_default-clause-data_prefix : goal.returns-in_default-clause-data_prefix
returns-in_default-clause-data_prefix g c = λ text held. delivers text

pub returns-in_default-clause-matched : goal.returns-in_default-clause-matched
returns-in_default-clause-matched g c = λ text held. matches text

pub returns-in_default-clause-sealed_once : goal.returns-in_default-clause-sealed_once
returns-in_default-clause-sealed_once g c = λ text held. seals_once text

pub returns-in-Err-ReadFault-clause-agreement : goal.returns-in-Err-ReadFault-clause-agreement
returns-in-Err-ReadFault-clause-agreement g c = λ text held. (agrees text, shows_alike text)

pub returns-in-Err-ReadFault-clause-data_prefix : goal.returns-in-Err-ReadFault-clause-data_prefix
returns-in-Err-ReadFault-clause-data_prefix g c = λ text held. delivers text

pub returns-in-Err-ReadFault-clause-matched : goal.returns-in-Err-ReadFault-clause-matched
returns-in-Err-ReadFault-clause-matched g c = λ text held. matches text

pub returns-in-Err-ReadFault-clause-sealed_once : goal.returns-in-Err-ReadFault-clause-sealed_once
returns-in-Err-ReadFault-clause-sealed_once g c = λ text held. seals_once text

pub returns-in-Err-TooLong-clause-agreement : goal.returns-in-Err-TooLong-clause-agreement
returns-in-Err-TooLong-clause-agreement g c = λ text held. (agrees text, shows_alike text)

pub returns-in-Err-TooLong-clause-data_prefix : goal.returns-in-Err-TooLong-clause-data_prefix
returns-in-Err-TooLong-clause-data_prefix g c = λ text held. delivers text

pub returns-in-Err-TooLong-clause-matched : goal.returns-in-Err-TooLong-clause-matched
returns-in-Err-TooLong-clause-matched g c = λ text held. matches text

pub returns-in-Err-TooLong-clause-sealed_once : goal.returns-in-Err-TooLong-clause-sealed_once
returns-in-Err-TooLong-clause-sealed_once g c = λ text held. seals_once text

pub returns-in-Err-OutOfMemory-clause-agreement : goal.returns-in-Err-OutOfMemory-clause-agreement
returns-in-Err-OutOfMemory-clause-agreement g c = λ text held. (agrees text, shows_alike text)

pub returns-in-Err-OutOfMemory-clause-data_prefix : goal.returns-in-Err-OutOfMemory-clause-data_prefix
returns-in-Err-OutOfMemory-clause-data_prefix g c = λ text held. delivers text

pub returns-in-Err-OutOfMemory-clause-matched : goal.returns-in-Err-OutOfMemory-clause-matched
returns-in-Err-OutOfMemory-clause-matched g c = λ text held. matches text

pub returns-in-Err-OutOfMemory-clause-sealed_once : goal.returns-in-Err-OutOfMemory-clause-sealed_once
returns-in-Err-OutOfMemory-clause-sealed_once g c = λ text held. seals_once text

pub returns-in-Ok-write_output-clause-agreement : goal.returns-in-Ok-write_output-clause-agreement
returns-in-Ok-write_output-clause-agreement g c = λ text held. (agrees text, shows_alike text)

pub returns-in-Ok-write_output-clause-data_prefix : goal.returns-in-Ok-write_output-clause-data_prefix
returns-in-Ok-write_output-clause-data_prefix g c = λ text held. delivers text

pub returns-in-Ok-write_output-clause-matched : goal.returns-in-Ok-write_output-clause-matched
returns-in-Ok-write_output-clause-matched g c = λ text held. matches text

pub returns-in-Ok-write_output-clause-sealed_once : goal.returns-in-Ok-write_output-clause-sealed_once
returns-in-Ok-write_output-clause-sealed_once g c = λ text held. seals_once text

pub returns-in-Err-Line-clause-agreement : goal.returns-in-Err-Line-clause-agreement
returns-in-Err-Line-clause-agreement g c = λ text held. (agrees text, shows_alike text)

pub returns-in-Err-Line-clause-data_prefix : goal.returns-in-Err-Line-clause-data_prefix
returns-in-Err-Line-clause-data_prefix g c = λ text held. delivers text

pub returns-in-Err-Line-clause-matched : goal.returns-in-Err-Line-clause-matched
returns-in-Err-Line-clause-matched g c = λ text held. matches text

pub returns-in-Err-Line-clause-sealed_once : goal.returns-in-Err-Line-clause-sealed_once
returns-in-Err-Line-clause-sealed_once g c = λ text held. seals_once text

pub returns-in-Err-LinkFull-clause-agreement : goal.returns-in-Err-LinkFull-clause-agreement
returns-in-Err-LinkFull-clause-agreement g c = λ text held. (agrees text, shows_alike text)

pub returns-in-Err-LinkFull-clause-data_prefix : goal.returns-in-Err-LinkFull-clause-data_prefix
returns-in-Err-LinkFull-clause-data_prefix g c = λ text held. delivers text

pub returns-in-Err-LinkFull-clause-matched : goal.returns-in-Err-LinkFull-clause-matched
returns-in-Err-LinkFull-clause-matched g c = λ text held. matches text

pub returns-in-Err-LinkFull-clause-sealed_once : goal.returns-in-Err-LinkFull-clause-sealed_once
returns-in-Err-LinkFull-clause-sealed_once g c = λ text held. seals_once text

pub returns-in-Err-WriteFault-clause-agreement : goal.returns-in-Err-WriteFault-clause-agreement
returns-in-Err-WriteFault-clause-agreement g c = λ text held. (agrees text, shows_alike text)

pub returns-in-Err-WriteFault-clause-data_prefix : goal.returns-in-Err-WriteFault-clause-data_prefix
returns-in-Err-WriteFault-clause-data_prefix g c = λ text held. delivers text

pub returns-in-Err-WriteFault-clause-matched : goal.returns-in-Err-WriteFault-clause-matched
returns-in-Err-WriteFault-clause-matched g c = λ text held. matches text

pub returns-in-Err-WriteFault-clause-sealed_once : goal.returns-in-Err-WriteFault-clause-sealed_once
returns-in-Err-WriteFault-clause-sealed_once g c = λ text held. seals_once text

pub returns-clause-agreement : goal.returns-clause-agreement
returns-clause-agreement g c = λ text held. (agrees text, shows_alike text)

pub returns-clause-data_prefix : goal.returns-clause-data_prefix
returns-clause-data_prefix g c = λ text held. delivers text

pub returns-clause-matched : goal.returns-clause-matched
returns-clause-matched g c = λ text held. matches text

pub returns-clause-sealed_once : goal.returns-clause-sealed_once
returns-clause-sealed_once g c = λ text held. seals_once text

pub returns-in-Serve-clause-agreement : goal.returns-in-Serve-clause-agreement
returns-in-Serve-clause-agreement g c = λ text held. (agrees text, shows_alike text)

pub returns-in-Serve-clause-data_prefix : goal.returns-in-Serve-clause-data_prefix
returns-in-Serve-clause-data_prefix g c = λ text held. delivers text

pub returns-in-Serve-clause-matched : goal.returns-in-Serve-clause-matched
returns-in-Serve-clause-matched g c = λ text held. matches text

pub returns-in-Serve-clause-sealed_once : goal.returns-in-Serve-clause-sealed_once
returns-in-Serve-clause-sealed_once g c = λ text held. seals_once text

pub returns-in-Drive-clause-agreement : goal.returns-in-Drive-clause-agreement
returns-in-Drive-clause-agreement g c = λ text held. (agrees text, shows_alike text)

pub returns-in-Drive-clause-data_prefix : goal.returns-in-Drive-clause-data_prefix
returns-in-Drive-clause-data_prefix g c = λ text held. delivers text

pub returns-in-Drive-clause-matched : goal.returns-in-Drive-clause-matched
returns-in-Drive-clause-matched g c = λ text held. matches text

pub returns-in-Drive-clause-sealed_once : goal.returns-in-Drive-clause-sealed_once
returns-in-Drive-clause-sealed_once g c = λ text held. seals_once text

pub returns-in-Check-clause-agreement : goal.returns-in-Check-clause-agreement
returns-in-Check-clause-agreement g c = λ text held. (agrees text, shows_alike text)

pub returns-in-Check-clause-data_prefix : goal.returns-in-Check-clause-data_prefix
returns-in-Check-clause-data_prefix g c = λ text held. delivers text

pub returns-in-Check-clause-matched : goal.returns-in-Check-clause-matched
returns-in-Check-clause-matched g c = λ text held. matches text

pub returns-in-Check-clause-sealed_once : goal.returns-in-Check-clause-sealed_once
returns-in-Check-clause-sealed_once g c = λ text held. seals_once text

pub returns-in_default-clause-refused : goal.returns-in_default-clause-refused
returns-in_default-clause-refused g c = λ text held. refuses text

pub returns-in_default-clause-completes : goal.returns-in_default-clause-completes
returns-in_default-clause-completes g c = λ text held. completes text

pub returns-in_default-clause-generated : goal.returns-in_default-clause-generated
returns-in_default-clause-generated g c = λ seed count asked. generated_holds seed count

pub returns-in-Err-ReadFault-clause-refused : goal.returns-in-Err-ReadFault-clause-refused
returns-in-Err-ReadFault-clause-refused g c = λ text held. refuses text

pub returns-in-Err-ReadFault-clause-completes : goal.returns-in-Err-ReadFault-clause-completes
returns-in-Err-ReadFault-clause-completes g c = λ text held. completes text

pub returns-in-Err-ReadFault-clause-generated : goal.returns-in-Err-ReadFault-clause-generated
returns-in-Err-ReadFault-clause-generated g c = λ seed count asked. generated_holds seed count

pub returns-in-Err-TooLong-clause-refused : goal.returns-in-Err-TooLong-clause-refused
returns-in-Err-TooLong-clause-refused g c = λ text held. refuses text

pub returns-in-Err-TooLong-clause-completes : goal.returns-in-Err-TooLong-clause-completes
returns-in-Err-TooLong-clause-completes g c = λ text held. completes text

pub returns-in-Err-TooLong-clause-generated : goal.returns-in-Err-TooLong-clause-generated
returns-in-Err-TooLong-clause-generated g c = λ seed count asked. generated_holds seed count

pub returns-in-Err-OutOfMemory-clause-refused : goal.returns-in-Err-OutOfMemory-clause-refused
returns-in-Err-OutOfMemory-clause-refused g c = λ text held. refuses text

pub returns-in-Err-OutOfMemory-clause-completes : goal.returns-in-Err-OutOfMemory-clause-completes
returns-in-Err-OutOfMemory-clause-completes g c = λ text held. completes text

pub returns-in-Err-OutOfMemory-clause-generated : goal.returns-in-Err-OutOfMemory-clause-generated
returns-in-Err-OutOfMemory-clause-generated g c = λ seed count asked. generated_holds seed count

pub returns-in-Ok-write_output-clause-refused : goal.returns-in-Ok-write_output-clause-refused
returns-in-Ok-write_output-clause-refused g c = λ text held. refuses text

pub returns-in-Ok-write_output-clause-completes : goal.returns-in-Ok-write_output-clause-completes
returns-in-Ok-write_output-clause-completes g c = λ text held. completes text

pub returns-in-Ok-write_output-clause-generated : goal.returns-in-Ok-write_output-clause-generated
returns-in-Ok-write_output-clause-generated g c = λ seed count asked. generated_holds seed count

pub returns-in-Err-Line-clause-refused : goal.returns-in-Err-Line-clause-refused
returns-in-Err-Line-clause-refused g c = λ text held. refuses text

pub returns-in-Err-Line-clause-completes : goal.returns-in-Err-Line-clause-completes
returns-in-Err-Line-clause-completes g c = λ text held. completes text

pub returns-in-Err-Line-clause-generated : goal.returns-in-Err-Line-clause-generated
returns-in-Err-Line-clause-generated g c = λ seed count asked. generated_holds seed count

pub returns-in-Err-LinkFull-clause-refused : goal.returns-in-Err-LinkFull-clause-refused
returns-in-Err-LinkFull-clause-refused g c = λ text held. refuses text

pub returns-in-Err-LinkFull-clause-completes : goal.returns-in-Err-LinkFull-clause-completes
returns-in-Err-LinkFull-clause-completes g c = λ text held. completes text

pub returns-in-Err-LinkFull-clause-generated : goal.returns-in-Err-LinkFull-clause-generated
returns-in-Err-LinkFull-clause-generated g c = λ seed count asked. generated_holds seed count

pub returns-in-Err-WriteFault-clause-refused : goal.returns-in-Err-WriteFault-clause-refused
returns-in-Err-WriteFault-clause-refused g c = λ text held. refuses text

pub returns-in-Err-WriteFault-clause-completes : goal.returns-in-Err-WriteFault-clause-completes
returns-in-Err-WriteFault-clause-completes g c = λ text held. completes text

pub returns-in-Err-WriteFault-clause-generated : goal.returns-in-Err-WriteFault-clause-generated
returns-in-Err-WriteFault-clause-generated g c = λ seed count asked. generated_holds seed count

pub returns-clause-refused : goal.returns-clause-refused
returns-clause-refused g c = λ text held. refuses text

pub returns-clause-completes : goal.returns-clause-completes
returns-clause-completes g c = λ text held. completes text

pub returns-clause-generated : goal.returns-clause-generated
returns-clause-generated g c = λ seed count asked. generated_holds seed count

pub returns-in-Serve-clause-refused : goal.returns-in-Serve-clause-refused
returns-in-Serve-clause-refused g c = λ text held. refuses text

pub returns-in-Serve-clause-completes : goal.returns-in-Serve-clause-completes
returns-in-Serve-clause-completes g c = λ text held. completes text

pub returns-in-Serve-clause-generated : goal.returns-in-Serve-clause-generated
returns-in-Serve-clause-generated g c = λ seed count asked. generated_holds seed count

pub returns-in-Drive-clause-refused : goal.returns-in-Drive-clause-refused
returns-in-Drive-clause-refused g c = λ text held. refuses text

pub returns-in-Drive-clause-completes : goal.returns-in-Drive-clause-completes
returns-in-Drive-clause-completes g c = λ text held. completes text

pub returns-in-Drive-clause-generated : goal.returns-in-Drive-clause-generated
returns-in-Drive-clause-generated g c = λ seed count asked. generated_holds seed count

pub returns-in-Check-clause-refused : goal.returns-in-Check-clause-refused
returns-in-Check-clause-refused g c = λ text held. refuses text

pub returns-in-Check-clause-completes : goal.returns-in-Check-clause-completes
returns-in-Check-clause-completes g c = λ text held. completes text

pub returns-in-Check-clause-generated : goal.returns-in-Check-clause-generated
returns-in-Check-clause-generated g c = λ seed count asked. generated_holds seed count

pub returns-in_default-clause-at_each_packet : goal.returns-in_default-clause-at_each_packet
returns-in_default-clause-at_each_packet g c = λ text held. at_packets text

pub returns-in-Err-ReadFault-clause-at_each_packet : goal.returns-in-Err-ReadFault-clause-at_each_packet
returns-in-Err-ReadFault-clause-at_each_packet g c = λ text held. at_packets text

pub returns-in-Err-TooLong-clause-at_each_packet : goal.returns-in-Err-TooLong-clause-at_each_packet
returns-in-Err-TooLong-clause-at_each_packet g c = λ text held. at_packets text

pub returns-in-Err-OutOfMemory-clause-at_each_packet : goal.returns-in-Err-OutOfMemory-clause-at_each_packet
returns-in-Err-OutOfMemory-clause-at_each_packet g c = λ text held. at_packets text

pub returns-in-Ok-write_output-clause-at_each_packet : goal.returns-in-Ok-write_output-clause-at_each_packet
returns-in-Ok-write_output-clause-at_each_packet g c = λ text held. at_packets text

pub returns-in-Err-Line-clause-at_each_packet : goal.returns-in-Err-Line-clause-at_each_packet
returns-in-Err-Line-clause-at_each_packet g c = λ text held. at_packets text

pub returns-in-Err-LinkFull-clause-at_each_packet : goal.returns-in-Err-LinkFull-clause-at_each_packet
returns-in-Err-LinkFull-clause-at_each_packet g c = λ text held. at_packets text

pub returns-in-Err-WriteFault-clause-at_each_packet : goal.returns-in-Err-WriteFault-clause-at_each_packet
returns-in-Err-WriteFault-clause-at_each_packet g c = λ text held. at_packets text

pub returns-clause-at_each_packet : goal.returns-clause-at_each_packet
returns-clause-at_each_packet g c = λ text held. at_packets text

pub returns-in-Serve-clause-at_each_packet : goal.returns-in-Serve-clause-at_each_packet
returns-in-Serve-clause-at_each_packet g c = λ text held. at_packets text

pub returns-in-Drive-clause-at_each_packet : goal.returns-in-Drive-clause-at_each_packet
returns-in-Drive-clause-at_each_packet g c = λ text held. at_packets text

pub returns-in-Check-clause-at_each_packet : goal.returns-in-Check-clause-at_each_packet
returns-in-Check-clause-at_each_packet g c = λ text held. at_packets text

pub returns-in-ServeKept-clause-agreement : goal.returns-in-ServeKept-clause-agreement
returns-in-ServeKept-clause-agreement g c = λ text held. (agrees text, shows_alike text)

pub returns-in-ServeKept-clause-data_prefix : goal.returns-in-ServeKept-clause-data_prefix
returns-in-ServeKept-clause-data_prefix g c = λ text held. delivers text

pub returns-in-ServeKept-clause-matched : goal.returns-in-ServeKept-clause-matched
returns-in-ServeKept-clause-matched g c = λ text held. matches text

pub returns-in-ServeKept-clause-sealed_once : goal.returns-in-ServeKept-clause-sealed_once
returns-in-ServeKept-clause-sealed_once g c = λ text held. seals_once text

pub returns-in-ServeKept-clause-refused : goal.returns-in-ServeKept-clause-refused
returns-in-ServeKept-clause-refused g c = λ text held. refuses text

pub returns-in-ServeKept-clause-completes : goal.returns-in-ServeKept-clause-completes
returns-in-ServeKept-clause-completes g c = λ text held. completes text

pub returns-in-ServeKept-clause-generated : goal.returns-in-ServeKept-clause-generated
returns-in-ServeKept-clause-generated g c = λ seed count asked. generated_holds seed count

pub returns-in-ServeKept-clause-at_each_packet : goal.returns-in-ServeKept-clause-at_each_packet
returns-in-ServeKept-clause-at_each_packet g c = λ text held. at_packets text

pub returns-in-Attest-clause-agreement : goal.returns-in-Attest-clause-agreement
returns-in-Attest-clause-agreement g c = λ text held. (agrees text, shows_alike text)

pub returns-in-Attest-clause-data_prefix : goal.returns-in-Attest-clause-data_prefix
returns-in-Attest-clause-data_prefix g c = λ text held. delivers text

pub returns-in-Attest-clause-matched : goal.returns-in-Attest-clause-matched
returns-in-Attest-clause-matched g c = λ text held. matches text

pub returns-in-Attest-clause-sealed_once : goal.returns-in-Attest-clause-sealed_once
returns-in-Attest-clause-sealed_once g c = λ text held. seals_once text

pub returns-in-Attest-clause-refused : goal.returns-in-Attest-clause-refused
returns-in-Attest-clause-refused g c = λ text held. refuses text

pub returns-in-Attest-clause-completes : goal.returns-in-Attest-clause-completes
returns-in-Attest-clause-completes g c = λ text held. completes text

pub returns-in-Attest-clause-generated : goal.returns-in-Attest-clause-generated
returns-in-Attest-clause-generated g c = λ seed count asked. generated_holds seed count

pub returns-in-Attest-clause-at_each_packet : goal.returns-in-Attest-clause-at_each_packet
returns-in-Attest-clause-at_each_packet g c = λ text held. at_packets text

pub returns-in_default-clause-nothing_old : goal.returns-in_default-clause-nothing_old
returns-in_default-clause-nothing_old g c = λ text held. lives_hold text

pub returns-in_default-clause-no_transcript_twice : goal.returns-in_default-clause-no_transcript_twice
returns-in_default-clause-no_transcript_twice g c = λ text held. lives_are_apart text

pub returns-in-Err-ReadFault-clause-nothing_old : goal.returns-in-Err-ReadFault-clause-nothing_old
returns-in-Err-ReadFault-clause-nothing_old g c = λ text held. lives_hold text

pub returns-in-Err-ReadFault-clause-no_transcript_twice : goal.returns-in-Err-ReadFault-clause-no_transcript_twice
returns-in-Err-ReadFault-clause-no_transcript_twice g c = λ text held. lives_are_apart text

pub returns-in-Err-TooLong-clause-nothing_old : goal.returns-in-Err-TooLong-clause-nothing_old
returns-in-Err-TooLong-clause-nothing_old g c = λ text held. lives_hold text

pub returns-in-Err-TooLong-clause-no_transcript_twice : goal.returns-in-Err-TooLong-clause-no_transcript_twice
returns-in-Err-TooLong-clause-no_transcript_twice g c = λ text held. lives_are_apart text

pub returns-in-Err-OutOfMemory-clause-nothing_old : goal.returns-in-Err-OutOfMemory-clause-nothing_old
returns-in-Err-OutOfMemory-clause-nothing_old g c = λ text held. lives_hold text

pub returns-in-Err-OutOfMemory-clause-no_transcript_twice : goal.returns-in-Err-OutOfMemory-clause-no_transcript_twice
returns-in-Err-OutOfMemory-clause-no_transcript_twice g c = λ text held. lives_are_apart text

pub returns-in-Ok-write_output-clause-nothing_old : goal.returns-in-Ok-write_output-clause-nothing_old
returns-in-Ok-write_output-clause-nothing_old g c = λ text held. lives_hold text

pub returns-in-Ok-write_output-clause-no_transcript_twice : goal.returns-in-Ok-write_output-clause-no_transcript_twice
returns-in-Ok-write_output-clause-no_transcript_twice g c = λ text held. lives_are_apart text

pub returns-in-Err-Line-clause-nothing_old : goal.returns-in-Err-Line-clause-nothing_old
returns-in-Err-Line-clause-nothing_old g c = λ text held. lives_hold text

pub returns-in-Err-Line-clause-no_transcript_twice : goal.returns-in-Err-Line-clause-no_transcript_twice
returns-in-Err-Line-clause-no_transcript_twice g c = λ text held. lives_are_apart text

pub returns-in-Err-LinkFull-clause-nothing_old : goal.returns-in-Err-LinkFull-clause-nothing_old
returns-in-Err-LinkFull-clause-nothing_old g c = λ text held. lives_hold text

pub returns-in-Err-LinkFull-clause-no_transcript_twice : goal.returns-in-Err-LinkFull-clause-no_transcript_twice
returns-in-Err-LinkFull-clause-no_transcript_twice g c = λ text held. lives_are_apart text

pub returns-in-Err-WriteFault-clause-nothing_old : goal.returns-in-Err-WriteFault-clause-nothing_old
returns-in-Err-WriteFault-clause-nothing_old g c = λ text held. lives_hold text

pub returns-in-Err-WriteFault-clause-no_transcript_twice : goal.returns-in-Err-WriteFault-clause-no_transcript_twice
returns-in-Err-WriteFault-clause-no_transcript_twice g c = λ text held. lives_are_apart text

pub returns-clause-nothing_old : goal.returns-clause-nothing_old
returns-clause-nothing_old g c = λ text held. lives_hold text

pub returns-clause-no_transcript_twice : goal.returns-clause-no_transcript_twice
returns-clause-no_transcript_twice g c = λ text held. lives_are_apart text

pub returns-in-Serve-clause-nothing_old : goal.returns-in-Serve-clause-nothing_old
returns-in-Serve-clause-nothing_old g c = λ text held. lives_hold text

pub returns-in-Serve-clause-no_transcript_twice : goal.returns-in-Serve-clause-no_transcript_twice
returns-in-Serve-clause-no_transcript_twice g c = λ text held. lives_are_apart text

pub returns-in-Drive-clause-nothing_old : goal.returns-in-Drive-clause-nothing_old
returns-in-Drive-clause-nothing_old g c = λ text held. lives_hold text

pub returns-in-Drive-clause-no_transcript_twice : goal.returns-in-Drive-clause-no_transcript_twice
returns-in-Drive-clause-no_transcript_twice g c = λ text held. lives_are_apart text

pub returns-in-Check-clause-nothing_old : goal.returns-in-Check-clause-nothing_old
returns-in-Check-clause-nothing_old g c = λ text held. lives_hold text

pub returns-in-Check-clause-no_transcript_twice : goal.returns-in-Check-clause-no_transcript_twice
returns-in-Check-clause-no_transcript_twice g c = λ text held. lives_are_apart text

pub returns-in-ServeKept-clause-nothing_old : goal.returns-in-ServeKept-clause-nothing_old
returns-in-ServeKept-clause-nothing_old g c = λ text held. lives_hold text

pub returns-in-ServeKept-clause-no_transcript_twice : goal.returns-in-ServeKept-clause-no_transcript_twice
returns-in-ServeKept-clause-no_transcript_twice g c = λ text held. lives_are_apart text

pub returns-in-Attest-clause-nothing_old : goal.returns-in-Attest-clause-nothing_old
returns-in-Attest-clause-nothing_old g c = λ text held. lives_hold text

pub returns-in-Attest-clause-no_transcript_twice : goal.returns-in-Attest-clause-no_transcript_twice
returns-in-Attest-clause-no_transcript_twice g c = λ text held. lives_are_apart text
