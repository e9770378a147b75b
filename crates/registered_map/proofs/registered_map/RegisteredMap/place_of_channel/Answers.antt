use Rattle.std.proofs.Common.{◌≡◌, ◌==◌, ◌∙◌, length, unwrap_or, ap, arith}
use Rattle.std.specs.Prelude.{position}
use Rattle.registered_map.specs.declared.telling.RegisteredChannel.{RegisteredChannel}
use Rattle.registered_map.proofs.Places.{position-or_length}
use Rattle.registered_map.proofs.registered_map.RegisteredMap.place_of_channel.Goals as goal

pub returns : goal.returns
returns c =
    let channels = c.args.self.now.channels in
    let long : c.len.result ≡ length channels.items = omega (arith, c.len.ensures, channels.ok.0) in
    c.unwrap_or.ensures ∙ ap (λ o. unwrap_or o c.len.result) c.channel_if_named.ensures
    ∙ ap (unwrap_or (position (λ (one : RegisteredChannel). one.id == c.args.id) channels.items)) long
    ∙ position-or_length (λ (one : RegisteredChannel). one.id == c.args.id) channels.items
