-- The lines that tell what a record comes to, and that there will be none. This project's own.
use Rattle.std.specs.Prelude.{ℕ, List, [], ◌∷◌, codes}
use Rattle.std.specs.Fmt.{decimal}
use Rattle.appraise.specs.declared.appraisal.Appraisal.{Appraisal}
use Rattle.appraise.specs.declared.appraisal.Appraisal.TheVariants.{Trusted, Malformed, Repeated, Unknown, Differs, Missing}
use Rattle.attestor.specs.declared.progressed.Progressed.{Progressed}
use Rattle.attestor.specs.declared.progressed.Progressed.TheVariants.{Going, Verdict, Failed}
use Rattle.frame_stream.specs.Frames.{counted}
use Rattle.trace_text.specs.Spelling.{with_words}

-- A record that is not trusted: why, and at which place or index.
abbrev pub untrusted_text : List ℕ → ℕ → List ℕ
untrusted_text word number = with_words (codes "untrusted") (word ∷ decimal number ∷ [])

abbrev pub appraisal_text : Appraisal → List ℕ
appraisal_text (Malformed at) = untrusted_text (codes "malformed") at
appraisal_text (Repeated index) = untrusted_text (codes "repeated") index
appraisal_text (Unknown index) = untrusted_text (codes "unknown") index
appraisal_text (Differs index) = untrusted_text (codes "differs") index
appraisal_text (Missing index) = untrusted_text (codes "missing") index
appraisal_text Trusted = codes "trusted"

-- A line as a frame: kind 4, and the line with its length before it.
abbrev pub line_frame : List ℕ → List ℕ
line_frame line = 4 ∷ counted line

-- The frame of what a packet came to, if it has one.
abbrev pub progress_frame : Progressed → List ℕ
progress_frame Going = []
progress_frame (Verdict appraisal) = line_frame (appraisal_text appraisal)
progress_frame Failed = line_frame (codes "failed")
