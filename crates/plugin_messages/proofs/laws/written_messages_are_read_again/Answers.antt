use Rattle.plugin_messages.proofs.RoundTrip.{host_read, plugin_read}
use Rattle.plugin_messages.proofs.laws.written_messages_are_read_again.Goals as goal

pub returns-clause-host : goal.returns-clause-host
returns-clause-host c = host_read

pub returns-clause-plugin : goal.returns-clause-plugin
returns-clause-plugin c = plugin_read
