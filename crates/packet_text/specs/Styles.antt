-- Packets in one of two styles: in words, or as JSON. This project's own.
use Rattle.std.specs.Prelude.{ℕ, List, [], ◌∷◌, ◌++◌, ◌+◌, length}
use Rattle.capture_bodies.specs.Collecting.{large_in}
use Rattle.capture_bodies.specs.Completing.{completed_in}
use Rattle.capture_records.specs.Ends.{eids_of, own_of}
use Rattle.capture_records.specs.Hearing.{record_in}
use Rattle.capture_records.specs.Inside.{inside_in}
use Rattle.mctp_framing.specs.Packet.{parsed}
use Rattle.packet_text.specs.Blocks.{block_of}
use Rattle.packet_text.specs.JsonBlocks.{object_of}
use Rattle.packet_text.specs.Shown.{Contents}
use Rattle.packet_text.specs.declared.style.Style.{Style}
use Rattle.packet_text.specs.declared.style.Style.TheVariants.{Json, Words}
use Rattle.script_text.specs.declared.configuration.config.ScriptConfig.{ScriptConfig}

-- What is written of a packet with this number and these contents.
abbrev pub written_by : Style → ScriptConfig → (number : ℕ) → List ℕ → Contents → List ℕ
written_by Words config number packet held = block_of config number packet held
written_by Json config number packet held = object_of config number packet held

-- The contents of a packet behind those before it, the newest first.
abbrev pub contents_of : ScriptConfig → List (List ℕ) → List ℕ → Contents
contents_of config older packet = record {
  done = completed_in (own_of config) (eids_of config) older (parsed packet);
  large = large_in (own_of config) (eids_of config) older (parsed packet);
  seen = record_in config older packet;
  inside = inside_in config older packet;
}

abbrev pub written_of : Style → ScriptConfig → List (List ℕ) → List ℕ → List ℕ
written_of style config older packet = written_by style config (length older + 1) packet (contents_of config older packet)

-- What is written of packets, in their order, behind those before them.
abbrev pub written_from : Style → ScriptConfig → List (List ℕ) → List (List ℕ) → List ℕ
written_from style config older [] = []
written_from style config older (packet ∷ others) = written_of style config older packet ++ written_from style config (packet ∷ older) others
