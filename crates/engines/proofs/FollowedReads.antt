-- At each read of a trace that is followed, just the text of all lines that were read before stood
-- flushed in the output.
use Rattle.std.proofs.Common.{Option, ℕ, List, [], ◌++◌, sym, subst}
use Rattle.std.specs.Prelude.{flat_map}
use Rattle.std.specs.Io.KnownBytes.{Appends, Consumes}
use Rattle.std.proofs.KnownBytes.{Appends-nil, Appends-trans}
use Rattle.std.proofs.lemmas.Grind.{flat_map-append}
use Rattle.loss_rule.specs.declared.rule.LossRule.{LossRule}
use Rattle.receiver.specs.declared.width.Width.{Width}
use Rattle.texts.specs.declared.follow.settings.FollowSettings.{FollowSettings}
use Rattle.texts.specs.Happened.{HappenedAt}
use Rattle.texts.specs.Follow.{told_lines}
use Rattle.engines.specs.declared.follow.Follower.{Follower}
use Rattle.engines.specs.FlushedReads.{FlushedRead, MakesReads, ReadsBehindText}
use Rattle.engines.specs.Following.{IsTextOfWhole}
use Rattle.engines.specs.Inside.Following.{HasFollowedBytes}
use Rattle.engines.proofs.FollowedLines.{text_so_far}
use Rattle.engines.proofs.ShownReads.{ReadsSoFar, reads-none, reads-more}

module _ {R : Type 0} (after : R → List FlushedRead → R → Type 0) (rule : LossRule) (width : Width) (settings : FollowSettings) (start : R) (known first : Option (List ℕ)) where
  -- So far these bytes were followed, and what happened by their lines was written behind what the
  -- output held at first; the reader gave just these bytes, at reads that were all behind the text
  -- of what was read.
  pub record FollowsShown (left held : Option (List ℕ)) (now : R) (follower : Follower) : Type 0 where
    pub bytes : List ℕ
    pub told : List HappenedAt
    pub followed : HasFollowedBytes rule width settings bytes told follower
    pub wrote : Appends first held (flat_map (told_lines settings) told)
    pub reads : ReadsSoFar (IsTextOfWhole rule width settings) first after start known left now bytes

  module _ (left held : Option (List ℕ)) (now : R) (follower : Follower) (far : FollowsShown left held now follower) (left' : Option (List ℕ)) (now' : R) (piece : List ℕ)
      (makes : MakesReads after held now now' piece) (read : Consumes left left' piece) where
    -- one read more was made
    read_on : ReadsSoFar (IsTextOfWhole rule width settings) first after start known left' now' (far.bytes ++ piece)
    read_on =
        reads-more (IsTextOfWhole rule width settings) first after start known left left' held now now' far.bytes piece (flat_map (told_lines settings) far.told) far.reads
        (text_so_far rule width settings far.bytes far.told follower far.followed) far.wrote makes read

    pub shown-read : ReadsBehindText (IsTextOfWhole rule width settings) first after known left' start now'
    shown-read = read_on.all

    -- and what it gave was followed and written
    pub shown-more : (held' : Option (List ℕ)) (follower' : Follower) (happened : List HappenedAt)
        → HasFollowedBytes rule width settings (far.bytes ++ piece) (far.told ++ happened) follower' → Appends held held' (flat_map (told_lines settings) happened)
        → FollowsShown left' held' now' follower'
    shown-more held' follower' happened followed wrote = record {
      bytes = far.bytes ++ piece;
      told = far.told ++ happened;
      followed = followed;
      wrote =
          subst (λ (all : List ℕ). Appends first held' all) (sym (flat_map-append (told_lines settings) far.told happened))
          (Appends-trans first held held' (flat_map (told_lines settings) far.told) (flat_map (told_lines settings) happened) far.wrote wrote);
      reads = read_on;
    }

module _ {R : Type 0} (after : R → List FlushedRead → R → Type 0) (rule : LossRule) (width : Width) (settings : FollowSettings) (start : R) (known first : Option (List ℕ)) where
  -- no read was made
  pub shown-none : (now : R) → after start [] now → ReadsBehindText (IsTextOfWhole rule width settings) first after known known start now
  shown-none now made = (reads-none (IsTextOfWhole rule width settings) first after start known now made).all

  -- nothing was read
  pub shown-nothing : (now : R) (follower : Follower) → after start [] now → HasFollowedBytes rule width settings [] [] follower
      → FollowsShown after rule width settings start known first known first now follower
  shown-nothing now follower made has = record {
    bytes = [];
    told = [];
    followed = has;
    wrote = Appends-nil first;
    reads = reads-none (IsTextOfWhole rule width settings) first after start known now made;
  }
