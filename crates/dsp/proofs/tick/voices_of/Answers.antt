-- Each voice is made of what stands at its index.
use borrow.Author.Rules.{rules}
use lib.IntN.{pos}
use lib.ListN.{get_or}
use Rattle.dsp.specs.Inside.{as_voice, no_dial, no_envelope, no_play, no_feed, samples_at, voices_in}
use Rattle.dsp.proofs.Arrays.{filled}
use Rattle.dsp.proofs.tick.voices_of.Goals as goal

pub returns : goal.returns
unfolding voices_in
returns c =
    let a = c.args in
    filled (λ n. as_voice (get_or a.dials n no_dial) (get_or a.envelopes n no_envelope) (get_or a.plays n no_play) (get_or a.feeds n no_feed) (get_or a.currents n (pos 0)) (samples_at n a.store))
    (λ i y q h. (search rules, search rules)) c.from_fn.ensures.items
