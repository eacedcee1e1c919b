pub mod ReportAddresses
