-- The words of the program. This project's own.
use Rattle.std.specs.Prelude.{ℕ, List, [], ◌∷◌, codes, bytes_eq, ◌&&◌, if◌then◌else◌, Option, Some, None}
use Rattle.packet_text.specs.declared.style.Style.TheVariants as style
use Rattle.sequence_picture.specs.declared.form.Form.TheVariants as form
use Rattle.spdm_view.specs.declared.words.TextWord.TheVariants.{Capture, Packets, Pcap, Picture}
use Rattle.spdm_view.specs.declared.words.Word.{Word}
use Rattle.spdm_view.specs.declared.words.Word.TheVariants.{FromPcap, OfText}

unfoldable pub word_named : List ℕ → Option Word
word_named word =
    if bytes_eq word (codes "packets") then Some (OfText (Packets style.Words))
    else (if bytes_eq word (codes "pcap") then Some (OfText Pcap)
    else (if bytes_eq word (codes "capture") then Some (OfText Capture)
    else (if bytes_eq word (codes "picture") then Some (OfText (Picture form.Svg))
    else (if bytes_eq word (codes "from-pcap") then Some FromPcap
    else None))))

-- `packets` with the option `--json`, and `picture` with `--mermaid`.
unfoldable pub styled_word : (word option : List ℕ) → Option Word
styled_word word option =
    if bytes_eq word (codes "packets") && bytes_eq option (codes "--json") then Some (OfText (Packets style.Json))
    else (if bytes_eq word (codes "picture") && bytes_eq option (codes "--mermaid") then Some (OfText (Picture form.Mermaid))
    else None)

-- There is one word, each as its bytes, or one with its option.
abbrev pub word_of : List (List ℕ) → Option Word
word_of (word ∷ []) = word_named word
word_of (word ∷ option ∷ []) = styled_word word option
word_of _ = None
