-- What the words of `capture` ask for.
use Rattle.std.specs.Prelude.{◌≡◌, ◌⊎◌, ◌*◌, ◌↔◌, ℕ, Bool, List, codes, IsTrue}
use Rattle.text_lines.specs.Number.{IsNumber}
use Rattle.loss_rule.specs.declared.rule.LossRule.TheVariants.{PassedOrSlid}
use Rattle.frame_records.specs.declared.link.FrameLink.{FrameLink}
use Rattle.frame_records.specs.declared.link.FrameLink.TheVariants.{Docsis, Xra}
use Rattle.command_line.specs.Command.{HasWord}
use Rattle.command_line.specs.Losses.{AskForLosses}
use Rattle.command_line.specs.Flows.{AskForFlows}
use Rattle.command_line.specs.OptionWords.{HasNoOption, HasOneValue}
use Rattle.frame_engine.specs.declared.inner_check.InnerCheck.{InnerCheck}
use Rattle.frame_engine.specs.declared.inner_check.InnerCheck.TheVariants.{Sequence, Nothing}
use Rattle.frame_engine.specs.declared.settings.CaptureSettings.{CaptureSettings}
use Rattle.capture_command.specs.declared.asked.CaptureWords.{CaptureWords}
use Rattle.capture_command.specs.declared.asked.CaptureWords.TheVariants.{Capture, Help}

-- the most milliseconds of a time, an hour, and the nanoseconds of some
abbrev pub wait_max : ℕ
wait_max = 3600000

abbrev pub nanoseconds : ℕ → ℕ
nanoseconds count = count * 1000000

-- words ask for this time by the one such option among them, whose value is in milliseconds, and
-- for the default one where there is none
abbrev pub AskForWait : List ℕ → ℕ → List (List ℕ) → ℕ → Type 0
AskForWait option default words wait =
    (HasNoOption option words × (wait ≡ nanoseconds default))
    ⊎ ((value : List ℕ) × (count : ℕ) × HasOneValue option words value × IsNumber value wait_max count × (wait ≡ nanoseconds count))

-- so for what a record of a frame holds, and for the frame alone where there is none
abbrev pub link_option : List ℕ
link_option = codes "--link"

abbrev pub link_name : FrameLink → List ℕ
link_name Docsis = codes "docsis"
link_name Xra = codes "xra"

abbrev pub AskForLink : List (List ℕ) → FrameLink → Type 0
AskForLink words link = (HasNoOption link_option words × (link ≡ Docsis)) ⊎ HasOneValue link_option words (link_name link)

-- all headers of frames pass just if one of the words asks for that
abbrev pub AskForCheck : List (List ℕ) → InnerCheck → Type 0
AskForCheck words check = (HasWord (codes "--no-check") words × (check ≡ Nothing)) ⊎ (¬ HasWord (codes "--no-check") words × (check ≡ Sequence))

-- the greatest index of a flow of a map
abbrev pub last_captured : ℕ
last_captured = 16383

-- **Words ask for these settings**: each by its option, with its default where that isn't there,
-- and none by two; no word ends the options
pub record AskForSettings (words : List (List ℕ)) (settings : CaptureSettings) : Type 0 where
  pub unended : ¬ HasWord (codes "--") words
  pub losses : AskForLosses PassedOrSlid settings.rule words
  pub reorder : AskForWait (codes "--reorder") 2 words settings.waits.reorder
  pub wait : AskForWait (codes "--wait") 20 words settings.waits.wait
  pub check : AskForCheck words settings.check
  pub link : AskForLink words settings.link
  pub flows : AskForFlows last_captured settings.selected words

-- frames are compared just if one of the words asks for that
abbrev pub AskToCompare : List (List ℕ) → Bool → Type 0
AskToCompare words compares = IsTrue compares ↔ HasWord (codes "--compare") words

-- it is said on the way how far the reading is just if one of the words asks for that
abbrev pub AskForProgress : List (List ℕ) → Bool → Type 0
AskForProgress words progress = IsTrue progress ↔ HasWord (codes "--progress") words

-- a word asks for help
abbrev pub AskForHelp : List (List ℕ) → Type 0
AskForHelp words = HasWord (codes "-h") words ⊎ HasWord (codes "--help") words

abbrev pub AskToCapture : List (List ℕ) → CaptureWords → Type 0
AskToCapture words (Capture asked) = AskForSettings words asked.settings × AskToCompare words asked.compares × AskForProgress words asked.progress
AskToCapture words (Help text) = AskForHelp words
