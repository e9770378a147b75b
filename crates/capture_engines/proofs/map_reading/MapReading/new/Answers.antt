use Rattle.std.proofs.Common.{[], refl, sym, subst}
use Rattle.capture_engines.specs.Telling.{TellAll, none_told}
use Rattle.capture_engines.proofs.map_reading.MapReading.new.Goals as goal

pub returns : goal.returns
returns c = record {
  records = [];
  captured = c.new.ensures;
  told = record {
    messages = [];
    told =
        subst (λ seen. TellAll [] c.new-2.result [] seen) (sym c.new-4.ensures)
        (none_told (record { none = c.new-2.ensures.none; count = c.new-2.ensures.count }));
    registered_is = c.new-3.ensures;
    count = refl;
  };
}
