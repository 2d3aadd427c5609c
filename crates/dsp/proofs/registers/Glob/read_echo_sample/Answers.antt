-- Two bytes, at addresses that wrap before the sum.
use mir.Syntax.{w16}
use Rattle.numbers.proofs.Range.{landed}
use Rattle.dsp.specs.Echo.{echo_read}
use Rattle.dsp.proofs.Blocks.{byte_wraps}
use Rattle.dsp.proofs.registers.Glob.read_echo_sample.Goals as goal

pub returns : goal.returns
unfolding echo_read
returns c = let b = c.echo_base-base.ensures in
    rw (landed w16 c.joined.type_inv, c.joined.ensures, c.ram_read8-hi.ensures, c.ram_read8-lo.ensures, b) (simp byte_wraps)
