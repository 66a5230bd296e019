-- The command `certify`.
use Rattle.std.specs.Prelude.{◌≡◌, ℕ, List, [], ◌∷◌, ◌++◌, length, take}
use Rattle.nm_base.specs.declared.letter.LetterId.{LetterId}
use Rattle.nm_outside.specs.Files.{Files}
use Rattle.c_tree.specs.declared.program.Program.{Program}
use Rattle.c_tree.specs.Play.{script_of}
use Rattle.event_list.specs.declared.Event.{Event}
use Rattle.trace_file.specs.Content.{Content}
use Rattle.cut_witness.specs.Certificates.{IsCertificate, IsCarriedOut}
use Rattle.cut_witness.specs.declared.certificates.Witness.{Witness}
use Rattle.report.specs.Texts.{certificate, certificates_line}
use Rattle.nm_top.specs.Demands.{AreReplayed}
use Rattle.nm_top.specs.Finishing.{finished, entries_of}

-- w is the certificate of the letter in the run F: its fields are what F says, and its turns, carried out from the
-- start, are the letter's witness
pub record Certifies (p : Program) (n mask : ℕ) (F : List Event) (letter : LetterId) (w : Witness) : Type 0 where
  pub names : w.id ≡ letter
  pub certificate : IsCertificate mask F w
  pub carried : IsCarriedOut (script_of p n) mask F w

-- the text is that of a certificate for each of these letters, in order
pub data AreCertified (p : Program) (n mask : ℕ) (F : List Event) : List LetterId → List ℕ → Type 0 where
  none : AreCertified p n mask F [] []
  more : {letters : List LetterId} {text : List ℕ} (letter : LetterId) (w : Witness)
      → AreCertified p n mask F letters text → Certifies p n mask F letter w
      → AreCertified p n mask F (letters ++ letter ∷ []) (text ++ certificate w)

-- What is printed is a certificate for each letter that the trace names, in file order, and their number.
pub record CertifyPrints (program trace : List ℕ) (files : Files) (printed : List ℕ) : Type 0 where
  pub of_program : Program
  pub content : Content
  pub has : AreReplayed files program trace of_program content
  pub text : List ℕ
  pub certified : AreCertified of_program content.n content.mask (finished of_program content).events
      (entries_of content) text
  pub is : printed ≡ text ++ certificates_line (length (entries_of content))

-- There was want of memory, after the certificates of the first letters.
pub record CertifyStops (program trace : List ℕ) (files : Files) (printed : List ℕ) : Type 0 where
  pub of_program : Program
  pub content : Content
  pub has : AreReplayed files program trace of_program content
  pub many : ℕ
  pub certified : AreCertified of_program content.n content.mask (finished of_program content).events
      (take many (entries_of content)) printed
