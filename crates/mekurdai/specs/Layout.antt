-- The sizes of the structs that C shares, on a target of 64 bits.
use Rattle.mekurdai.specs.declared.sizes.Sizes.{Sizes}

abbrev pub built : Sizes
built = record {
  responder = 16;
  requester = 16;
  attestor = 16;
  responder_config = 48;
  requester_config = 88;
  known = 40;
  block = 24;
  told = 24;
  session = 104;
  message = 8;
  watch = 32;
  change = 12;
  verdict = 16;
}
